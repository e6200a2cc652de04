-- Generated jobs: 1300 lines, every thirteenth a label, the others instructions of six forms by what is drawn.
use Rattle.std.specs.Prelude.{ℕ, ◌<◌, Bool, nat_lt, int_le, negsuc, ◌≤ℤ◌, zero, suc, ◌+◌, ◌*◌, ◌/◌, ◌%◌, ◌==◌, if◌then◌else◌, true, false, ℤ, pos, ◌-ℤ◌, List, [], ◌∷◌, None}
use Rattle.std.proofs.Common.{T, lit<, lit≤}
use lib.Dec.{ltb→lt}
use lib.Signed.{le_z_yes}
use Rattle.rv_base.specs.declared.regs.Reg.{Reg}
use Rattle.rv_base.specs.declared.regs.Writable.{Writable}
use Rattle.rv_base.specs.declared.label.MachLabel.{MachLabel}
use Rattle.rv_base.specs.declared.amode.AMode.{AMode}
use Rattle.rv_base.specs.declared.amode.AMode.TheVariants.{RegOffset}
use Rattle.rv_base.specs.declared.mem_flags.MemFlagsData.{MemFlagsData}
use Rattle.rv_base.specs.declared.condcodes.IntCC.TheVariants.{NotEqual}
use Rattle.rv_base.specs.declared.flags.IsaFlags.{IsaFlags}
use Rattle.rv_base.specs.Regs.{int_reg}
use Rattle.rv_base.specs.Frame.{no_frame}
use Rattle.rv_imms.specs.declared.imm12.Imm12.{Imm12}
use Rattle.rv_imms.specs.declared.imm20.Imm20.{Imm20}
use Rattle.rv_ops.specs.declared.alu.AluOPRRR.TheVariants.{Add}
use Rattle.rv_ops.specs.declared.alu.AluOPRRI.TheVariants.{Addi}
use Rattle.rv_ops.specs.declared.memory.LoadOP.TheVariants.{Ld}
use Rattle.rv_ops.specs.declared.memory.StoreOP.TheVariants.{Sd}
use Rattle.rv_ops.specs.declared.compare.IntegerCompare.{IntegerCompare}
use Rattle.rv_inst.specs.declared.inst.Inst.{Inst}
use Rattle.rv_inst.specs.declared.inst.Inst.TheVariants.{AluRRImm12, AluRRR, Lui, CondBr, Load, Store}
use Rattle.rv_inst.specs.declared.inst.CondBrTarget.TheVariants.{Label, Fallthrough}
use Rattle.rv_inst.specs.declared.inst.Line.{Line}
use Rattle.rv_inst.specs.declared.inst.Line.TheVariants.{Inst as Put, Bind}
use Rattle.rv_inst.specs.declared.job.Job.{Job}
use Rattle.rv_gen.specs.declared.draws.FourDraws.{FourDraws}
use Rattle.rv_gen.specs.Draws.{draws, after_draws}

-- the integer register of a number below 32, which all numbers here are; of others x0
abbrev pub in_file : (number : ℕ) (low : Bool) → (T low → number < 32) → Reg
in_file number true is_low = int_reg number (is_low tt)
in_file number false is_low = int_reg 0 (lit< tt)

-- x10 to x15
abbrev pub argument : ℕ → Reg
argument p = in_file (10 + p % 6) (nat_lt (10 + p % 6) 32) (ltb→lt (10 + p % 6) 32)

abbrev pub written : ℕ → Writable Reg
written p = record { reg = argument p }

-- the immediate of a number within its range, which all numbers here are; of others 0
abbrev pub in_range12 : (z : ℤ) (low high : Bool) → (T low → negsuc 2047 ≤ℤ z) → (T high → z ≤ℤ pos 2047) → Imm12
in_range12 z true true is_low is_high = record { value = z; low = is_low tt; high = is_high tt }
in_range12 z true false is_low is_high = record { value = pos 0; low = le_z_yes tt; high = le_z_yes tt }
in_range12 z false high is_low is_high = record { value = pos 0; low = le_z_yes tt; high = le_z_yes tt }

abbrev pub imm12_of : ℤ → Imm12
imm12_of z = in_range12 z (int_le (negsuc 2047) z) (int_le z (pos 2047)) le_z_yes le_z_yes

abbrev pub in_range20 : (z : ℤ) (low high : Bool) → (T low → negsuc 524287 ≤ℤ z) → (T high → z ≤ℤ pos 524287) → Imm20
in_range20 z true true is_low is_high = record { value = z; low = is_low tt; high = is_high tt }
in_range20 z true false is_low is_high = record { value = pos 0; low = le_z_yes tt; high = le_z_yes tt }
in_range20 z false high is_low is_high = record { value = pos 0; low = le_z_yes tt; high = le_z_yes tt }

abbrev pub imm20_of : ℤ → Imm20
imm20_of z = in_range20 z (int_le (negsuc 524287) z) (int_le z (pos 524287)) le_z_yes le_z_yes

-- -2048 to 2047
abbrev pub addend : ℕ → Imm12
addend r = imm12_of (pos (r % 4096) -ℤ pos 2048)

-- -524288 to 524287
abbrev pub upper : ℕ → Imm20
upper r = imm20_of (pos (r % 1048576) -ℤ pos 524288)

-- one of the hundred labels
abbrev pub target : ℕ → MachLabel
target r = record { number = r % 100 }

abbrev pub compared : FourDraws → IntegerCompare
compared d = record { kind = NotEqual; rs1 = argument d.p; rs2 = argument d.q }

-- one of 300 doublewords from a register
abbrev pub place : FourDraws → AMode
place d = RegOffset (argument d.q) (pos (8 * (d.r % 300)))

abbrev pub untold : MemFlagsData
untold = record { trap = None }

abbrev pub inst_by : ℕ → FourDraws → Inst
inst_by form d =
    if form == 0 then AluRRImm12 Addi (written d.p) (argument d.q) (addend d.r) else
    if form == 1 then AluRRR Add (written d.p) (argument d.q) (argument d.r) else
    if form == 2 then Lui (written d.p) (upper d.r) else
    if form == 3 then CondBr (Label (target d.r)) Fallthrough (compared d) else
    if form == 4 then Load (written d.p) Ld untold (place d) else
    Store (argument d.p) Sd untold (place d)

abbrev pub inst_of : FourDraws → Inst
inst_of d = inst_by (d.k % 6) d

-- the line at a place, drawn from a state, and the state after it
abbrev pub line_at : ℕ → ℕ → Line
line_at i s = if i % 13 == 0 then Bind (record { number = i / 13 }) else Put (inst_of (draws s))

abbrev pub state_after : ℕ → ℕ → ℕ
state_after i s = if i % 13 == 0 then s else after_draws s

-- so many lines from a place on
unfoldable pub lines_from : ℕ → ℕ → ℕ → List Line
lines_from zero i s = []
lines_from (suc n) i s = line_at i s ∷ lines_from n (i + 1) (state_after i s)

abbrev pub flags : IsaFlags
flags = record { has_m = true; has_zba = false; has_zbb = false; has_zca = true; has_zcb = false; has_zcd = false; has_zfhmin = false }

abbrev pub gen_job : ℕ → Job
gen_job n = record { lines = lines_from 1300 0 n; flags = flags; frame = no_frame; constants = [] }
