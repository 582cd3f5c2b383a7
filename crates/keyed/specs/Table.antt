-- The records of a table, and the slots that hold them. Assumes nothing.
use Rattle.std.specs.Prelude.{List, ◌++◌, length, take, drop}
use Rattle.keyed.specs.declared.table.Table.{Table}

-- the records of a table, in their order
abbrev pub live : {R : Type 0} → Table R → List R
live t = take t.len t.slots.now

-- the slots once the records xs are written at their front
abbrev pub written : {R : Type 0} → List R → List R → List R
written xs slots = xs ++ drop (length xs) slots
