-- The matrix and its cells (document 01, "The lookup tables" and "One event", rule 5). Assumes nothing.
use Rattle.std.specs.Prelude.{◌&&◌, cond, List, ℕ, ◌+◌, ◌-◌, ◌*◌, ◌%◌, leb, take, drop, get_or, Option, Some, None}
use Rattle.boxes.specs.Boxes.{box_count, beacon_count, junk_box}
use Rattle.tables.specs.Tables.{byte_of, matrix, time_of_flight}
use Rattle.sort.specs.declared.matrix.Cell.{Cell}

-- "Event sorting receives the matrix as the part of the table buffer from 8000 on": up to the time-of-flight table
abbrev pub matrix_bytes : ℕ
matrix_bytes = byte_of time_of_flight - byte_of matrix

abbrev pub matrix_of : List ℕ → List ℕ
matrix_of tables = take matrix_bytes (drop (byte_of matrix) tables)

-- "Its box b is used if 7 to 116, else 7"
abbrev pub box_used : ℕ → ℕ
box_used b = cond (leb junk_box b && leb b box_count) b junk_box

-- "beacon 1 to 12 if the cell names one"
abbrev pub beacon_used : ℕ → Option ℕ
beacon_used n = cond (leb 1 n && leb n beacon_count) (Some n) None

-- "cell 128 × f_m + f_e": "first byte is priority (128) plus box (low seven bits); its second is the beacon number"
unfoldable pub cell_of : List ℕ → (mass energy : ℕ) → Cell
cell_of m mass energy = record {
  ratebox = box_used (get_or m (3 * (128 * mass + energy)) 0 % 128);
  priority = leb 128 (get_or m (3 * (128 * mass + energy)) 0);
  beacon = beacon_used (get_or m (3 * (128 * mass + energy) + 1) 0);
}
