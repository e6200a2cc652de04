-- What a store leaves in the machine's memory, as one who keeps values there needs it: each law is the contract of a function of `line_laws`.
use Rattle.std.specs.Prelude.{◌≡◌, ◌≢◌, ℕ, ◌+◌, ◌^◌, ◌<◌, List, length}
use Rattle.rv_machine.specs.State.{Memory, byte, store, wrap}
use Rattle.rv_machine.specs.Memory.{load_result, store_bytes}
use Rattle.rv_machine.specs.declared.ops.LoadOp.TheVariants.{Ld}
use Rattle.rv_machine.specs.declared.ops.StoreOp.TheVariants.{Sd}

-- a number of 64 bits that was stored somewhere is loaded from there
abbrev pub StoredIsLoaded : Type 0
StoredIsLoaded = (mem : Memory) (a x : ℕ) → a < 2 ^ 64 → x < 2 ^ 64 → load_result Ld (store mem a (store_bytes Sd x)) a ≡ x

-- eight bytes are loaded alike from memories that have the same ones there
abbrev pub SameAreLoadedAlike : Type 0
SameAreLoadedAlike = (m n : Memory) (a : ℕ) → ((k : ℕ) → k < 8 → byte m (wrap (a + k)) ≡ byte n (wrap (a + k))) → load_result Ld m a ≡ load_result Ld n a

-- bytes that are put elsewhere change none
abbrev pub ElsewhereUnchanged : Type 0
ElsewhereUnchanged =
    (mem : Memory) (at a : ℕ) (bs : List ℕ) →
    at < 2 ^ 64 →
    ((k : ℕ) → k < length bs → a ≢ wrap (at + k)) →
    byte (store mem at bs) a ≡ byte mem a
