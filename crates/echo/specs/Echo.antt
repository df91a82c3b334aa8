-- Echoes (document 01, "Commands and loads"). Assumes nothing.
use Rattle.std.specs.Prelude.{ℕ, ◌/◌, ◌%◌, List, ◌∷◌, ◌++◌, take}
use Rattle.echo.specs.declared.Writer.{Writer}
use Rattle.wire.specs.Pieces.{padded}
use Rattle.wire.specs.Text.{text, hex2}

-- a number in eight digits
abbrev pub hex8 : ℕ → List ℕ
hex8 v = hex2 (v / 16777216) ++ hex2 (v / 65536 % 256) ++ hex2 (v / 256 % 256) ++ hex2 (v % 256)

abbrev pub prompt : List ℕ
prompt = text "SIT> "

-- CR LF and the prompt
abbrev pub ending : List ℕ
ending = 13 ∷ 10 ∷ prompt

-- "The echo buffer has 128 bytes, zero after the echo"
abbrev pub echo_bytes : ℕ
echo_bytes = 128

abbrev pub echoed : List ℕ → List ℕ
echoed xs = padded echo_bytes xs

-- "Accepted echo: low frame byte and sequence number as two digits 0-9 a-f each, a space, the line, CR LF, "SIT> ""
unfoldable pub accepted_echo : ℕ → ℕ → List ℕ → List ℕ
accepted_echo frame sequence line = echoed (hex2 (frame % 256) ++ hex2 sequence ++ text " " ++ line ++ ending)

-- "Refused by 5, 6 or 7: the line, "?", CR LF, "SIT> ""
unfoldable pub refused_echo : List ℕ → List ℕ
refused_echo line = echoed (line ++ text "?" ++ ending)

-- "Empty line: "SIT> ""
unfoldable pub prompt_echo : List ℕ
prompt_echo = echoed prompt

-- "binary A:aaaaaaaa N:nnnnnnnn .. eight digits 0-9 a-f each (A the address before, N the bytes placed)"
abbrev pub numbers : ℕ → ℕ → List ℕ
numbers address placed = text "binary A:" ++ hex8 address ++ text " N:" ++ hex8 placed

-- ".. OK", "then CR LF and the prompt"
unfoldable pub package_ok_echo : ℕ → ℕ → List ℕ
package_ok_echo address placed = echoed (numbers address placed ++ text " OK" ++ ending)

-- "or "ckserr" with received and computed sum for OK"
unfoldable pub package_error_echo : ℕ → ℕ → ℕ → ℕ → List ℕ
package_error_echo address placed received computed =
    echoed (numbers address placed ++ text " ckserr " ++ hex8 received ++ text " " ++ hex8 computed ++ ending)

-- what is written so far
abbrev pub written : Writer → List ℕ
written w = take w.at w.echo.now
