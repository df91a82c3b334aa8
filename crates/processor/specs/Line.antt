-- The call `line` (document 01, "Commands and loads" and "Causes and their numbers"; document 02, Point 4: "The line call is now lent
-- staging too"). Assumes nothing.
use Rattle.std.specs.Prelude.{List, ℕ, length}
use Rattle.state.specs.declared.State.{State}
use Rattle.take_line.specs.Line.{LineDone, line_number, line_by}

-- what the call hands back and leaves in the lent echo
unfoldable pub line_done : State → (line staging bitmap echo : List ℕ) → LineDone
line_done s line staging bitmap echo = line_by (line_number s line staging bitmap (length echo)) s line staging echo
