use Rattle.{rv_base.specs.declared.regs.RegClass.TheVariants.Int, rv_sequences.proofs.Terms.{◌≡◌, pos, ap, sym, ◌∙◌, ⊎_elim, RegClass, Vector, number_of, Decoded, Addi, short_rri, move_op}}
use Rattle.rv_sequences.proofs.moves.put_other.Goals as goal

pub returns-in-Float-clause-slots : goal.returns-in-Float-clause-slots
returns-in-Float-clause-slots c = rw (← (sym c.in-Float.is ∙ c.class.ensures)) c.put_float_move.ensures.slots

pub returns-in-Int : goal.returns-in-Int
returns-in-Int c =
    let to = number_of c.args.rd.reg in
    let from = number_of c.args.rm in
    let by : RegClass → Decoded = (λ class. move_op c.args.flags class c.args.ty to from) in
    let is : by c.class.result ≡ short_rri c.args.flags Addi to from (pos 0) = ⊎_elim (λ (e : c.class.result ≡ Int). ap by e) (λ (e : c.class.result ≡ Vector). ap by e) c.in-Int.is in
    record {
      slots = rw (sym is ∙ ap by c.class.ensures) at c.put_rri.ensures.slots;
      refused = c.put_rri.ensures.refused;
    }
