-- Document 01's whole case, and one case for each thing that it says of a line.
use Rattle.std.specs.Prelude.{◌≡◌, List, [], ◌∷◌}
use Prim.Native.String.{String}
use Rattle.laws.specs.Every.{Every}
use Rattle.script_answers.specs.Output.{ascii}
use Rattle.script.specs.Script.{script}

-- input and output
abbrev pub cases : List (String × String)
cases =
    ("c 15000 64000 4\na 0 7 1000 0 0\nt 14999\nt 15000\nd 15001\nd 15002\n", "ok 0 0\nenqueued 0 1000\nrefused 5 0 1000\nticked 0 1000\ndeparted 7 0 0\nrefused 6 0 0\n")
    ∷ ("", "")
    -- the last line may lack its newline
    ∷ ("c 15000 64000 4", "ok 0 0\n")
    ∷ ("c 15000 64000 4\nt 15000", "ok 0 0\nticked 0 0\n")
    -- a first line other than `c`; a second `c`, also after a refused one
    ∷ ("t 15000\n", "bad line 1\n")
    ∷ ("c 15000 64000 4\nc 15000 64000 4\n", "ok 0 0\nbad line 2\n")
    ∷ ("c 999 64000 4\nc 15000 64000 4\n", "refused 1 0 0\nbad line 2\n")
    -- after a refused `c`
    ∷ ("c 999 64000 4\na 0 1 1 0 0\nd 0\nt 15000\n", "refused 1 0 0\nrefused 2 0 0\nrefused 2 0 0\nrefused 2 0 0\n")
    -- a bad line ends the run
    ∷ ("c 15000 64000 4\nx\nt 15000\n", "ok 0 0\nbad line 2\n")
    -- slots
    ∷ ("c 15000 64000 4096\n", "ok 0 0\n")
    ∷ ("c 15000 64000 4097\n", "bad line 1\n")
    -- 32 bits and 64 bits
    ∷ ("c 4294967295 64000 4\n", "refused 1 0 0\n")
    ∷ ("c 4294967296 64000 4\n", "bad line 1\n")
    ∷ ("c 15000 64000 4\nd 18446744073709551615\n", "ok 0 0\nrefused 4 0 0\n")
    ∷ ("c 15000 64000 4\nd 18446744073709551616\n", "ok 0 0\nbad line 2\n")
    ∷ ("c 15000 64000 4\nd 18446744073709551620\n", "ok 0 0\nbad line 2\n")
    -- leading zeros
    ∷ ("c 015000 000000000000000000000000000064000 04\n", "ok 0 0\n")
    -- ecn
    ∷ ("c 15000 64000 4\na 0 7 1000 1 0\n", "ok 0 0\nenqueued 0 1000\n")
    ∷ ("c 15000 64000 4\na 0 7 1000 2 0\n", "ok 0 0\nbad line 2\n")
    -- one space apart: none doubled, in front or behind, and no tab or carriage return
    ∷ ("c  15000 64000 4\n", "bad line 1\n")
    ∷ (" c 15000 64000 4\n", "bad line 1\n")
    ∷ ("c 15000 64000 4 \n", "bad line 1\n")
    ∷ ("c\t15000 64000 4\n", "bad line 1\n")
    ∷ ("c 15000 64000 4\r\n", "bad line 1\n")
    -- as many fields as the form has
    ∷ ("c 15000 64000\n", "bad line 1\n")
    ∷ ("c 15000 64000 4 4\n", "bad line 1\n")
    ∷ ("c\n", "bad line 1\n")
    ∷ ("c 15000 64000 4\na 0 7 1000 0 0 0\n", "ok 0 0\nbad line 2\n")
    -- plain decimal numbers
    ∷ ("c +15000 64000 4\n", "bad line 1\n")
    ∷ ("c 15000 64000 -4\n", "bad line 1\n")
    ∷ ("c 15000 64000 0x4\n", "bad line 1\n")
    -- a letter by itself
    ∷ ("cc 15000 64000 4\n", "bad line 1\n")
    ∷ ("C 15000 64000 4\n", "bad line 1\n")
    -- an empty line is a line
    ∷ ("\nc 15000 64000 4\n", "bad line 1\n")
    ∷ []

abbrev pub Writes : String × String → Type 0
Writes (input, output) = script (ascii input) ≡ ascii output

abbrev pub CasesHold : Type 0
CasesHold = Every Writes cases
