use Rattle.std.proofs.Common.{◌≡◌, length}
use Rattle.std.specs.Iterator.Adapters.{zip_first, zip_second}
use Rattle.std.specs.Slice.Iter.{iter_rest}
use Rattle.std.specs.Str.{bytes_eq}
use Rattle.rv_listing.proofs.tokens.is.Given as goal

abbrev pub invariant-loop-c : goal.invariant-loop-c
invariant-loop-c l =
    (bytes_eq l.w l.word ≡ bytes_eq (iter_rest (zip_first l.c-iterator)) (iter_rest (zip_second l.c-iterator)))
    × (length (iter_rest (zip_first l.c-iterator)) ≡ length (iter_rest (zip_second l.c-iterator)))
