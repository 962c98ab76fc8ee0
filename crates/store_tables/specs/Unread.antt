-- What is said of a column that does not read.
use Rattle.sqlite.specs.declared.error.Error.{Error}
use Rattle.sqlite.specs.declared.error.Error.TheVariants.{SqliteFailure}
use Rattle.sqlite.specs.declared.error.ErrorCode.TheVariants.{OutOfMemory}
use Rattle.stable_store.specs.declared.fault.StoreFault.{StoreFault}
use Rattle.stable_store.specs.declared.fault.StoreFault.TheVariants.{Memory, NotOurs}

-- where memory ran out, out of memory; else the table is no store's
abbrev pub unread_by : Error → StoreFault
unread_by (SqliteFailure OutOfMemory) = Memory
unread_by _ = NotOurs
