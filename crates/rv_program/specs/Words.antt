-- The status of a program whose words can't be had.
use Rattle.std.specs.Prelude.{ℕ}
use Rattle.rv_program.specs.declared.words.WordsFault.{WordsFault}
use Rattle.rv_program.specs.declared.words.WordsFault.TheVariants.{NotText, Unread}

abbrev pub status_of : WordsFault → ℕ
status_of NotText = 2
status_of Unread = 8
