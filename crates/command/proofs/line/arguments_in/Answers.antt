-- `arguments_in` takes the words up to the third.
use Rattle.std.proofs.Common.{◌≡◌, ℕ, List, ◌∷◌, sym, ap, ◌∙◌}
use Rattle.std.specs.Prelude.{Some, None}
use Rattle.command.specs.Grammar.{line_words, argument_of}
use Rattle.command.specs.Parsing.{arguments_in, three_of}
use Rattle.command.proofs.WordLaws.{three_in, third_none}
use Rattle.command.proofs.line.arguments_in.Goals.{In-Some-split_word}
use Rattle.command.proofs.line.arguments_in.Goals as goal

-- three words or more
three : (c : In-Some-split_word) → arguments_in (line_words c.args.words.now)
    ≡ three_of (argument_of c.in-Some.first.now) (argument_of c.in-Some-split_word.second.now) (argument_of c.in-Some-split_word.third.now)
three c =
    let a = c.in-Some.first.now in
    let h : line_words c.args.words.now ≡ a ∷ line_words c.in-Some.behind.now = c.in-Some.ensures in
    let g : line_words c.in-Some.behind.now ≡ c.in-Some-split_word.second.now ∷ line_words c.in-Some-split_word.third.now =
    c.in-Some-split_word.ensures in
    ap arguments_in (h ∙ ap (λ (l : List (List ℕ)). a ∷ l) g) ∙ three_in a c.in-Some-split_word.second.now c.in-Some-split_word.third.now

pub returns-in_err-argument_of-4 : goal.returns-in_err-argument_of-4
returns-in_err-argument_of-4 c =
    let x = argument_of c.in-Some.first.now in
    let y = argument_of c.in-Some-split_word.second.now in
    let n : None ≡ argument_of c.in-Some-split_word.third.now = c.in_err-argument_of-4.ensures in
    c.from_residual-in_err-argument_of-4.ensures
    ∙ sym (three (goal.at.returns-in_err-argument_of-4 c).In-Some-split_word ∙ ap (three_of x y) (sym n) ∙ third_none x y)

pub returns : goal.returns
returns c =
    let n : Some c.in_ok-a.a ≡ argument_of c.in-Some.first.now = c.in_ok-a.ensures in
    let m : Some c.in_ok-argument_of-3.field-0 ≡ argument_of c.in-Some-split_word.second.now = c.in_ok-argument_of-3.ensures in
    let l : Some c.in_ok-argument_of-4.field-0 ≡ argument_of c.in-Some-split_word.third.now = c.in_ok-argument_of-4.ensures in
    (λ i. three_of (n i) (m i) (l i)) ∙ sym (three (goal.at.returns c).In-Some-split_word)
