use Rattle.std.proofs.Common.{◌≡◌, ◌++◌, take, string_bytes}
use Rattle.std.specs.List.{flat_map}
use Rattle.rv_text.specs.Operands.{arg_text}
use Rattle.rv_text.proofs.pseudo.put_args.Given as goal

abbrev pub invariant-loop-pair : goal.invariant-loop-pair
invariant-loop-pair l = string_bytes l.out ≡ string_bytes l.fn.out ++ flat_map arg_text (take l.pair-index l.args)
