-- The numbers that calls answer, and their texts.
use Rattle.std.specs.Prelude.{ℕ, List, codes}
use Rattle.argus_c.specs.declared.codes.Code.{Code}
use Rattle.argus_c.specs.declared.codes.Code.TheVariants.{Done, Bad, Nothing, Memory, Small, Closed, Open, Store, NotOurs}

-- the call did what it is for
abbrev pub done : ℕ
done = 0

-- the bytes are no setup, no stores, no step, no action's name
abbrev pub bad : ℕ
bad = 1

-- there is nothing to tell: no step was made, there is no such object or guardian, or no store has changed
abbrev pub nothing : ℕ
nothing = 2

-- out of memory
abbrev pub memory : ℕ
memory = 3

-- the place is too small for the text
abbrev pub small : ℕ
small = 4

-- the handle holds no world
abbrev pub closed : ℕ
closed = 5

-- the handle holds a world already
abbrev pub open_already : ℕ
open_already = 6

-- the store of a guardian failed
abbrev pub store : ℕ
store = 7

-- the stores are not those of this setup
abbrev pub not_ours : ℕ
not_ours = 8

abbrev pub code_number : Code → ℕ
code_number Done = done
code_number Bad = bad
code_number Nothing = nothing
code_number Memory = memory
code_number Small = small
code_number Closed = closed
code_number Open = open_already
code_number Store = store
code_number NotOurs = not_ours

abbrev pub code_text : Code → List ℕ
code_text Done = codes "done"
code_text Bad = codes "not a setup, stores, a step or a name"
code_text Nothing = codes "nothing to tell"
code_text Memory = codes "out of memory"
code_text Small = codes "the place is too small"
code_text Closed = codes "the handle is closed"
code_text Open = codes "the handle is open already"
code_text Store = codes "a store failed"
code_text NotOurs = codes "not the stores of this setup"
