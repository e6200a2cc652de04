-- What a line means depends on no labels but those that it names, and on where constants, symbols and slots stand.
use Rattle.std.proofs.Common.{ℕ, ◌≡◌, ◌+◌, ◌*◌, ◌/◌, ◌^◌, pos, List, [], ◌∷◌, ◌++◌, refl, ap}
use Rattle.rv_base.specs.declared.label.MachLabel.{MachLabel}
use Rattle.rv_base.specs.declared.mem_flags.MemFlagsData.{MemFlagsData}
use Rattle.rv_base.specs.declared.regs.Reg.{Reg}
use Rattle.rv_base.specs.declared.regs.Writable.{Writable}
use Rattle.rv_ops.specs.declared.memory.LoadOP.{LoadOP}
use Rattle.rv_ops.specs.declared.memory.StoreOP.{StoreOP}
use Rattle.rv_base.specs.Regs.{number_of}
use Rattle.rv_base.specs.declared.amode.AMode.{AMode}
use Rattle.rv_base.specs.declared.amode.AMode.TheVariants as mode
use Rattle.rv_base.specs.AMode.{offset_of}
use Rattle.rv_encode.specs.Operations.{load_op}
use Rattle.rv_machine.specs.Memory.{load_result}
use Rattle.rv_machine.specs.State.{Values, reg, set_reg, wrap, low64}
use Rattle.rv_ops.specs.declared.memory.LoadOP.TheVariants.{Ld}
use Rattle.rv_ops.specs.Memory.{load_size, store_size}
use Rattle.rv_inst.specs.declared.inst.Inst.{Inst}
use Rattle.rv_inst.specs.declared.inst.Inst.TheVariants.{Auipc, Load, Store, LoadAddr, LabelAddress, Jalr, LoadExtNameGot, LoadExtNameNear, LoadExtNameFar, Call, CallInd, ReturnCall, ReturnCallInd}
use Rattle.rv_inst.specs.declared.inst.Line.{Line}
use Rattle.rv_inst.specs.declared.inst.Line.TheVariants.{Inst as Put, Bind}
use Rattle.rv_inst.specs.Forms.{short_jalr}
use Rattle.rv_inst.specs.Environments.{SameLabels, AgreeOn}
use Rattle.rv_inst.specs.Meaning.{Environment, inst_effect, effect_of, inst_writes, writes_of, Leave, frame_left, inst_exit, exit_of, address_of, addresses_from, loaded, stored}
use Rattle.rv_inst.specs.Operands.{labels_of, address_targets, inst_labels, named_labels}

-- an address depends on no label but its own, and on no constant but its own
address_agrees : {e f : Environment} (read : ℕ) (at : AMode) (v : Values) → AgreeOn (labels_of (address_targets read at)) e f → address_of e at v ≡ address_of f at v
address_agrees read (mode.RegOffset r o) v a = refl
address_agrees read (mode.SPOffset o) v a = refl
address_agrees read (mode.FPOffset o) v a = refl
address_agrees read (mode.SlotOffset o) v a = ap (λ frame. wrap (reg v 2 + low64 (offset_of frame (mode.SlotOffset o)))) a.frame
address_agrees read (mode.IncomingArg o) v a = ap (λ frame. wrap (reg v 2 + low64 (offset_of frame (mode.IncomingArg o)))) a.frame
address_agrees read (mode.Const k) v a = a.constants_same k.number
address_agrees read (mode.Label l) v a = a.labels_same.0

-- labels that are the first of others
same_first : (e f : Environment) (labels more : List MachLabel) → SameLabels (labels ++ more) e f → SameLabels labels e f
same_first e f [] more s = tt
same_first e f (l ∷ labels) more s = (s.0, same_first e f labels more s.1)

agree_first : {e f : Environment} (labels more : List MachLabel) → AgreeOn (labels ++ more) e f → AgreeOn labels e f
agree_first {e} {f} labels more a = record { start = a.start; after = a.after; flags = a.flags; frame = a.frame; labels_same = same_first e f labels more a.labels_same; constants_same = a.constants_same; symbols_same = a.symbols_same; slots_same = a.slots_same }

-- that of a load, and of a store
pub load_address_agrees : {e f : Environment} (rd : Writable Reg) (op : LoadOP) (flags : MemFlagsData) (from : AMode) (v : Values) → AgreeOn (named_labels (Put (Load rd op flags from))) e f → address_of e from v ≡ address_of f from v
load_address_agrees rd op flags from v a = address_agrees (load_size op) from v (agree_first (labels_of (address_targets (load_size op) from)) [] a)

pub store_address_agrees : {e f : Environment} (to : AMode) (op : StoreOP) (flags : MemFlagsData) (src : Reg) (v : Values) → AgreeOn (named_labels (Put (Store src op flags to))) e f → address_of e to v ≡ address_of f to v
store_address_agrees to op flags src v a = address_agrees 0 to v (agree_first (labels_of (address_targets 0 to)) [] a)

inst_effect_agrees : {e f : Environment} (inst : Inst) (v : Values) → AgreeOn (inst_labels inst) e f → inst_effect e inst v ≡ inst_effect f inst v
inst_effect_agrees (Auipc rd imm) v a = ap (λ n. set_reg v (number_of rd.reg) (wrap (n + low64 imm.value * 2 ^ 12))) a.start
inst_effect_agrees (Load rd op flags from) v a = ap (λ n. loaded op (number_of rd.reg) n v) (load_address_agrees rd op flags from v a)
inst_effect_agrees (Store src op flags to) v a = ap (λ n. stored op (number_of src) n v) (store_address_agrees to op flags src v a)
inst_effect_agrees (LoadAddr rd mem) v a = ap (set_reg v (number_of rd.reg)) (address_agrees 0 mem v (agree_first (labels_of (address_targets 0 mem)) [] a))
inst_effect_agrees (LabelAddress dst label) v a = ap (set_reg v (number_of dst.reg)) a.labels_same.0
inst_effect_agrees (Jalr rd base offset) v a = ap (set_reg v (number_of rd.reg)) a.after
inst_effect_agrees (LoadExtNameGot rd name) v a = ap (λ n. set_reg v (number_of rd.reg) (load_result (load_op Ld) v.mem n)) (a.slots_same name.number)
inst_effect_agrees (LoadExtNameNear rd name offset) v a = ap (λ n. set_reg v (number_of rd.reg) (wrap (n + low64 offset))) (a.symbols_same name.number)
inst_effect_agrees (LoadExtNameFar rd name offset) v a = ap (λ n. set_reg v (number_of rd.reg) (wrap (n + low64 offset))) (a.symbols_same name.number)
inst_effect_agrees (Call info) v a = ap (λ n. set_reg v 1 (wrap (n + 8))) a.start
inst_effect_agrees (CallInd info) v a = λ i. set_reg v 1 (wrap (a.start i + (short_jalr (a.flags i) 1 (number_of info.dest) (pos 0)).len))
inst_effect_agrees (ReturnCall info) v a = ap (λ frame. frame_left frame info.new_stack_arg_size v) a.frame
inst_effect_agrees (ReturnCallInd info) v a = ap (λ frame. frame_left frame info.new_stack_arg_size v) a.frame
inst_effect_agrees _ v a = refl

inst_writes_agree : {e f : Environment} (inst : Inst) (v : Values) → AgreeOn (inst_labels inst) e f → inst_writes e inst v ≡ inst_writes f inst v
inst_writes_agree (Store src op flags to) v a = ap (λ n. addresses_from n (store_size op)) (store_address_agrees to op flags src v a)
inst_writes_agree _ v a = refl

inst_exit_agrees : {e f : Environment} (inst : Inst) (v : Values) → AgreeOn (inst_labels inst) e f → inst_exit e inst v ≡ inst_exit f inst v
inst_exit_agrees (Call info) v a = ap (λ n. Leave (wrap (n + low64 (pos 0)) / 2 * 2)) (a.symbols_same info.dest.number)
inst_exit_agrees (ReturnCall info) v a = ap (λ n. Leave (wrap (n + low64 (pos 0)) / 2 * 2)) (a.symbols_same info.dest.number)
inst_exit_agrees _ v a = refl

pub effect_agrees : {e f : Environment} (line : Line) (v : Values) → AgreeOn (named_labels line) e f → effect_of e line v ≡ effect_of f line v
effect_agrees (Put inst) v a = inst_effect_agrees inst v a
effect_agrees (Bind label) v a = refl

pub writes_agree : {e f : Environment} (line : Line) (v : Values) → AgreeOn (named_labels line) e f → writes_of e line v ≡ writes_of f line v
writes_agree (Put inst) v a = inst_writes_agree inst v a
writes_agree (Bind label) v a = refl

pub exit_agrees : {e f : Environment} (line : Line) (v : Values) → AgreeOn (named_labels line) e f → exit_of e line v ≡ exit_of f line v
exit_agrees (Put inst) v a = inst_exit_agrees inst v a
exit_agrees (Bind label) v a = refl
