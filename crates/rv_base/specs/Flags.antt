-- The flags of a job.
use Rattle.std.specs.Prelude.{false}
use Rattle.rv_base.specs.declared.flags.IsaFlags.{IsaFlags}

-- every flag off
abbrev pub no_flags : IsaFlags
no_flags = record { has_m = false; has_zba = false; has_zbb = false; has_zca = false; has_zcb = false; has_zcd = false; has_zfhmin = false }
