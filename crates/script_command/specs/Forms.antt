-- The four forms of a command.
use Rattle.std.specs.Prelude.{List, [], ◌∷◌, ℕ, eqb, get_or, Option, None, Some}
use Rattle.lines.specs.Forms.{Form, double_word, formed, word}
use Rattle.script_command.specs.declared.Command.{Command}
use Rattle.script_command.specs.declared.Command.TheVariants.{Configure, Arrival, Departure, Tick}

abbrev pub forms : List (Form (Option Command))
forms =
    -- c target buffer slots
    record { letter = 99; most = word ∷ word ∷ 4096 ∷ []; make = λ n. Some (Configure (get_or n 0 0) (get_or n 1 0) (get_or n 2 0)) }
    -- a clock handle size ecn u
    ∷ record {
      letter = 97;
      most = double_word ∷ word ∷ word ∷ 1 ∷ word ∷ [];
      make = λ n. Some (Arrival (get_or n 0 0) (get_or n 1 0) (get_or n 2 0) (eqb (get_or n 3 0) 1) (get_or n 4 0));
    }
    -- d clock
    ∷ record { letter = 100; most = double_word ∷ []; make = λ n. Some (Departure (get_or n 0 0)) }
    -- t clock
    ∷ record { letter = 116; most = double_word ∷ []; make = λ n. Some (Tick (get_or n 0 0)) }
    ∷ []

unfoldable pub command_of : (letter : ℕ) (numbers : List ℕ) → Option Command
command_of letter numbers = formed None forms letter numbers
