-- Any log that reads whole is, byte for byte, its settings, note, records and trailer: contents have one form, the writer's, and no byte of a
-- log is left out of what is read.
use Rattle.std.specs.Prelude.{◌≡◌, List, ℕ}
use Rattle.log_codec.specs.Fields.{AreBytes}
use Rattle.call_log.specs.Answers.{given}
use Rattle.call_log.specs.Whole.{Contents, read_whole}
use Rattle.log_guarantees.specs.AlwaysWhole.{bytes_of}

abbrev pub OneForm : Type 0
OneForm = (log : List ℕ) (c : Contents) → AreBytes log → read_whole log ≡ given c → log ≡ bytes_of c.header c.note c.records
