-- 1: a word of the table of sizes holds a size in its low 16 bits and a link, a place in the tables, above.
use Rattle.std.specs.Prelude.{List, ℕ, ◌/◌, ◌%◌, get_or}

abbrev pub size_at : (sizes : List ℕ) (place : ℕ) → ℕ
size_at sizes place = get_or sizes place 0 % 65536

abbrev pub link_at : (sizes : List ℕ) (place : ℕ) → ℕ
link_at sizes place = get_or sizes place 0 / 65536
