-- The status with which the program ends early.
use Rattle.std.specs.Prelude.{ℕ}
use Rattle.rv_program.specs.Words as words
use Rattle.rvdis.specs.declared.failure.Failure.{Failure}
use Rattle.rvdis.specs.declared.failure.Failure.TheVariants as failures

abbrev pub status_of : Failure → ℕ
status_of (failures.Asked text) = 0
status_of (failures.Words text) = 2
status_of (failures.NoWords fault) = words.status_of fault
status_of (failures.Flags word) = 2
status_of (failures.Base word) = 2
status_of failures.NoReport = 2
status_of (failures.ListingFile path) = 5
status_of (failures.Listing line) = 3
status_of (failures.NotReport line) = 3
status_of (failures.Refused line) = 3
status_of failures.NotHex = 3
status_of (failures.NotLine line) = 3
status_of failures.NotReadBack = 4
status_of failures.Read = 5
status_of failures.Write = 6
status_of failures.TooLong = 7
status_of failures.OutOfMemory = 8
