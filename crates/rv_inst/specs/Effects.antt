-- What a meaning is made of: what a line is read among, what it makes of the values, and how it is left.
use Rattle.std.specs.Prelude.{ℕ, zero, suc, ◌+◌, ◌-◌, ◌*◌, ◌^◌, ◌==◌, Bool, if◌then◌else◌, List, [], ◌∷◌, ℤ}
use Rattle.rv_base.specs.declared.external_name.ExternalName.{ExternalName}
use Rattle.rv_base.specs.declared.flags.IsaFlags.{IsaFlags}
use Rattle.rv_base.specs.declared.frame.FrameLayout.{FrameLayout}
use Rattle.rv_base.specs.declared.ir_type.IrType.{IrType}
use Rattle.rv_base.specs.declared.trap.TrapCode.{TrapCode}
use Rattle.rv_base.specs.IrType.{bits_of}
use Rattle.rv_base.specs.CondCodes.{holds}
use Rattle.rv_base.specs.Regs.{number_of}
use Rattle.rv_machine.specs.Arithmetic.{extend_word}
use Rattle.rv_machine.specs.State.{Values, reg, store, wrap, low64}
use Rattle.rv_ops.specs.declared.compare.IntegerCompare.{IntegerCompare}

-- the value of an inline constant: of 32 bits, its low word, sign-extended; else its low 64 bits
abbrev pub constant_of : IrType → ℕ → ℕ
constant_of type n = if bits_of type == 32 then extend_word n else wrap n

-- What a line is read among: the addresses of its first byte, of the byte after its last, of labels, constants and symbols by their
-- numbers, and of the slots that hold the addresses of symbols; the flags, and the frame.
pub record Environment : Type 0 where
  pub start : ℕ
  pub after : ℕ
  pub label : ℕ → ℕ
  pub constant : ℕ → ℕ
  pub symbol : ℕ → ℕ
  pub slot : ℕ → ℕ
  pub flags : IsaFlags
  pub frame : FrameLayout

-- the address of a symbol plus an offset
abbrev pub symbol_at : Environment → ExternalName → ℤ → ℕ
symbol_at env name offset = wrap (env.symbol name.number + low64 offset)

-- whether a comparison of two registers holds
abbrev pub compares : IntegerCompare → Values → Bool
compares cmp v = holds cmp.kind (reg v (number_of cmp.rs1)) (reg v (number_of cmp.rs2))

-- how a line is left: to the next one, to a label of this number, to an address, or not at all, where it breaks, traps for a
-- cause, or is data and no code
pub data Exit : Type 0 where
  Next : Exit
  To : ℕ → Exit
  Leave : ℕ → Exit
  Break : Exit
  Trap : TrapCode → Exit
  Data : Exit

-- what an instruction makes of the values; the addresses of the bytes that it writes; and how it is left
pub record Meaning : Type 0 where
  pub effect : Values
  pub writes : List ℕ
  pub exit : Exit

-- it is left so with these values, and writes no byte
abbrev pub goes : Exit → Values → Meaning
goes exit v = record { effect = v; writes = []; exit = exit }

-- so many addresses, one after the other, from one on
abbrev pub addresses_from : ℕ → ℕ → List ℕ
addresses_from a zero = []
addresses_from a (suc n) = a ∷ addresses_from (wrap (a + 1)) n

-- bytes go to an address
abbrev pub put_bytes : Values → ℕ → List ℕ → Values
put_bytes v a bytes = record { regs = v.regs; mem = store v.mem a bytes }

-- a byte 0 goes to each of these addresses
abbrev pub zero_bytes : Values → List ℕ → Values
zero_bytes v [] = v
zero_bytes v (a ∷ addresses) = zero_bytes (put_bytes v a (0 ∷ [])) addresses

-- the addresses of the probes of a stack: so many guards below the stack pointer, from the farthest on down to two
abbrev pub probes_from : ℕ → ℕ → ℕ → List ℕ
probes_from sp guard zero = []
probes_from sp guard (suc zero) = []
probes_from sp guard (suc (suc k)) = wrap (sp + (2 ^ 64 - suc (suc k) * guard)) ∷ probes_from sp guard (suc k)

-- a guard of no bytes has no probes
abbrev pub probes_of : ℕ → ℕ → ℕ → List ℕ
probes_of sp guard count = if guard == 0 then [] else probes_from sp guard count
