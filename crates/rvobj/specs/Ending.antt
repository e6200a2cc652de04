-- The status with which the program ends early.
use Rattle.std.specs.Prelude.{ℕ}
use Rattle.rv_program.specs.Words as words
use Rattle.rvobj.specs.declared.failure.Failure.{Failure}
use Rattle.rvobj.specs.declared.failure.Failure.TheVariants as failures

abbrev pub status_of : Failure → ℕ
status_of (failures.Asked text) = 0
status_of (failures.Words text) = 2
status_of (failures.NoWords fault) = words.status_of fault
status_of (failures.Flags word) = 2
status_of (failures.Abi word) = 2
status_of (failures.Export word) = 2
status_of (failures.Import word) = 2
status_of (failures.Name word) = 2
status_of (failures.NotReport line) = 3
status_of (failures.Refused line) = 3
status_of (failures.NoLabel label) = 4
status_of failures.Read = 5
status_of failures.Write = 6
status_of failures.TooLong = 7
status_of failures.OutOfMemory = 8
