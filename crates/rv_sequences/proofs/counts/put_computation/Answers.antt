use Rattle.rv_sequences.proofs.Terms.{◌≡◌, ap, sym, ◌∙◌, bits_of, number_of, OnOk, slots_of, subst}
use Rattle.{std.specs.Prelude.unwrap_or, rv_code.specs.Sequences.pieces_by, rv_code.specs.Sequences.reverse_pieces, rv_code.specs.Sequences.sequence_pieces, rv_inst.specs.declared.sequence.Computation.Computation, rv_inst.specs.declared.sequence.Sequence.Sequence, rv_sequences.specs.Parts.PutsAlone}
use Rattle.rv_sequences.proofs.counts.put_computation.Goals as goal

by_kind : (s : Sequence) (kind : Computation) → s.computation ≡ kind → pieces_by kind (number_of s.rd.reg) (number_of s.tmp1.reg) (number_of s.tmp2.reg) (number_of (unwrap_or s.tmp3 s.tmp2).reg) (number_of s.rs) (bits_of s.ty) ≡ sequence_pieces s
by_kind s kind e = ap (λ k. pieces_by k (number_of s.rd.reg) (number_of s.tmp1.reg) (number_of s.tmp2.reg) (number_of (unwrap_or s.tmp3 s.tmp2).reg) (number_of s.rs) (bits_of s.ty)) (sym e)

pub returns-in-Ones-clause-slots : goal.returns-in-Ones-clause-slots
returns-in-Ones-clause-slots c = rw (c.popcnt_code.ensures.pieces ∙ by_kind c.args.sequence _ c.in-Ones.is) at c.put_code.ensures.slots

pub returns-in-Zeros-clause-slots : goal.returns-in-Zeros-clause-slots
returns-in-Zeros-clause-slots c = subst (λ ps. OnOk c.put_zeros.result (PutsAlone c.args.flags (slots_of c.args.flags ps) c.args.sink.now c.put_zeros.new.sink)) (by_kind c.args.sequence _ c.in-Zeros.is) c.put_zeros.ensures.slots

pub returns-in-ReversedBytes-clause-slots : goal.returns-in-ReversedBytes-clause-slots
returns-in-ReversedBytes-clause-slots c =
    let s = c.args.sequence in
    let third = ap (λ w. reverse_pieces (number_of s.rd.reg) (number_of s.tmp2.reg) (number_of w.reg) (number_of s.tmp1.reg) (number_of s.rs) (bits_of s.ty)) c.unwrap_or-tmp3.ensures in
    rw (c.reverse_code.ensures.pieces ∙ third ∙ by_kind s _ c.in-ReversedBytes.is) at c.put_code-in-ReversedBytes.ensures.slots
