-- The header line of the flags.
use Rattle.std.specs.Prelude.{ℕ, Bool, true, if◌then◌else◌, List, [], ◌∷◌, Option, Some, None, codes}
use Rattle.std.specs.Str.{bytes_eq}
use Rattle.rv_base.specs.declared.flags.IsaFlags.{IsaFlags}
use Rattle.rv_base.specs.Flags.{no_flags}
use Rattle.rv_listing.specs.Tokens.{◌>>=◌}

-- a flag that is off is switched on; one that is on may not be named again
abbrev pub switched : Bool → IsaFlags → Option IsaFlags
switched is_on on = if is_on then None else Some on

-- a further flag, by its name
unfoldable pub with_flag : IsaFlags → List ℕ → Option IsaFlags
with_flag flags w =
    if bytes_eq w (codes "m") then switched flags.has_m (record flags { has_m = true }) else
    if bytes_eq w (codes "zba") then switched flags.has_zba (record flags { has_zba = true }) else
    if bytes_eq w (codes "zbb") then switched flags.has_zbb (record flags { has_zbb = true }) else
    if bytes_eq w (codes "zca") then switched flags.has_zca (record flags { has_zca = true }) else
    if bytes_eq w (codes "zcb") then switched flags.has_zcb (record flags { has_zcb = true }) else
    if bytes_eq w (codes "zcd") then switched flags.has_zcd (record flags { has_zcd = true }) else
    if bytes_eq w (codes "zfhmin") then switched flags.has_zfhmin (record flags { has_zfhmin = true }) else None

-- the flags that words name, after those so far
abbrev pub flags_after : IsaFlags → List (List ℕ) → Option IsaFlags
flags_after flags [] = Some flags
flags_after flags (w ∷ ws) = with_flag flags w >>= λ more. flags_after more ws

-- names, each at most once, in any order; none at all switches nothing on
abbrev pub flags_form : List (List ℕ) → Option IsaFlags
flags_form = flags_after no_flags
