-- `asked` goes by the keyword and the arguments.
use Rattle.std.proofs.Common.{◌≡◌, ℕ, List, ◌∷◌, sym, ap, ◌∙◌}
use Rattle.std.specs.Prelude.{Option, Some, None}
use Rattle.command.specs.Grammar.{line_words, of_words}
use Rattle.command.specs.Parsing.{keyword_of, arguments_in, or_wrong, answered}
use Rattle.command.specs.declared.keyword.Keyword.{Keyword}
use Rattle.command.proofs.KeywordLaws.{asked_is}
use Rattle.command.proofs.line.asked.Goals.{In_ok-word}
use Rattle.command.proofs.line.asked.Goals as goal

-- what the grammar says of a word and the words behind it
words_are : (c : In_ok-word) → of_words (line_words c.args.line.now) c.args.ranges
    ≡ answered (keyword_of c.in_ok-word.word.now) (arguments_in (line_words c.in_ok-word.words.now)) c.args.ranges
words_are c =
    let h : line_words c.args.line.now ≡ c.in_ok-word.word.now ∷ line_words c.in_ok-word.words.now = c.in_ok-word.ensures in
    ap (λ (l : List (List ℕ)). of_words l c.args.ranges) h ∙ asked_is c.in_ok-word.word.now (line_words c.in_ok-word.words.now) c.args.ranges

pub returns-in_err-word : goal.returns-in_err-word
unfolding of_words
returns-in_err-word c = rw (c.from_residual.ensures, c.in_err-word.ensures)

pub returns-in_err-named : goal.returns-in_err-named
returns-in_err-named c =
    let n : None ≡ keyword_of c.in_ok-word.word.now = c.in_err-named.ensures in
    let ws = line_words c.in_ok-word.words.now in
    ap or_wrong c.from_residual-in_err-named.ensures
    ∙ ap (λ (x : Option Keyword). answered x (arguments_in ws) c.args.ranges) n
    ∙ sym (words_are (goal.at.returns-in_err-named c).In_ok-word)

pub returns-in_err-arguments_in : goal.returns-in_err-arguments_in
returns-in_err-arguments_in c =
    let n : Some c.in_ok-named.field-0 ≡ keyword_of c.in_ok-word.word.now = c.in_ok-named.ensures in
    let m : None ≡ arguments_in (line_words c.in_ok-word.words.now) = c.in_err-arguments_in.ensures in
    ap or_wrong c.from_residual-in_err-arguments_in.ensures
    ∙ (λ i. answered (n i) (m i) c.args.ranges)
    ∙ sym (words_are (goal.at.returns-in_err-arguments_in c).In_ok-word)

pub returns : goal.returns
returns c =
    let n : Some c.in_ok-named.field-0 ≡ keyword_of c.in_ok-word.word.now = c.in_ok-named.ensures in
    let m : Some c.in_ok-arguments_in.field-0 ≡ arguments_in (line_words c.in_ok-word.words.now) = c.in_ok-arguments_in.ensures in
    c.with.ensures ∙ (λ i. answered (n i) (m i) c.args.ranges) ∙ sym (words_are (goal.at.returns c).In_ok-word)
