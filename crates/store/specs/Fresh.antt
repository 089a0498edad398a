-- 4: all is 0 at fresh, and what the tables hold doesn't matter.
use Rattle.store.specs.declared.Ends.{Ends}
use Rattle.store.specs.declared.Store.{Store}

-- no slot was taken
abbrev pub fresh_store : Store
fresh_store = record { used = 0; freed = 0; spare = 0 }

-- the ends of a chain that never held a packet
abbrev pub fresh_ends : Ends
fresh_ends = record { head = 0; tail = 0 }
