-- Halfwords with the fields of a compressed load or store are decoded as it, under the flags that it needs.
use Rattle.std.proofs.Common.{◌≡◌, ◌≢◌, ℕ, ◌+◌, ◌*◌, ◌/◌, ◌%◌, ◌<◌, true, false, Option, Some, None, refl, sym, ap, subst, ◌∙◌, ◌⊎◌, inl, inr, arith}
use Rattle.std.specs.Option.{unwrap_or}
use Rattle.rv_base.specs.declared.flags.IsaFlags.{IsaFlags}
use Rattle.rv_machine.specs.declared.decoding.Decoded.{Decoded}
use Rattle.rv_machine.specs.Layout.{bits}
use Rattle.rv_machine.specs.Compressed.{half_op, half_funct3, lwsp_imm, ldsp_imm, swsp_imm, sdsp_imm, lw_imm, ld_imm, decode_zcb_memory, decode_half}
use Rattle.rv_ops.specs.declared.compressed.CiOp.{CiOp}
use Rattle.rv_ops.specs.declared.compressed.CiOp.TheVariants as ci
use Rattle.rv_ops.specs.declared.compressed.CssOp.{CssOp}
use Rattle.rv_ops.specs.declared.compressed.CssOp.TheVariants as css
use Rattle.rv_ops.specs.declared.compressed.CsOp.{CsOp}
use Rattle.rv_ops.specs.declared.compressed.CsOp.TheVariants as cs
use Rattle.rv_ops.specs.declared.compressed.ClOp.{ClOp}
use Rattle.rv_ops.specs.declared.compressed.ClOp.TheVariants as cl
use Rattle.rv_ops.specs.declared.compressed.ZcbMemOp.{ZcbMemOp}
use Rattle.rv_ops.specs.declared.compressed.ZcbMemOp.TheVariants as zcb
use Rattle.rv_ops.specs.declared.memory.LoadOP.{LoadOP}
use Rattle.rv_ops.specs.declared.memory.LoadOP.TheVariants as loads
use Rattle.rv_ops.specs.Compressed.{space_bits, ci_numbers, css_numbers, cs_numbers, cl_numbers, zcb_numbers}
use Rattle.rv_encode.specs.Layouts.{IsCiType, IsCssType, IsClType, IsClbType, IsClhType}
use Rattle.rv_ops.specs.Memory.{load_size, store_size}
use Rattle.rv_encode.specs.Compressed.{read_of, sp_load, decoded_sp_load, css_read, css_store, decoded_css, cs_read, cs_store, decoded_cs, cl_read, cl_load, decoded_cl, decoded_zcb, zcb_needs, IsZcbType}
use Rattle.rv_encode.proofs.Halfwords.{quadrant_decodes, quadrant_is, two_guards, nonzero, both}

-- ---- past the stack pointer

-- the layout of a load past the stack pointer
abbrev IsSpLoad : CiOp → ℕ → ℕ → ℕ → Type 0
IsSpLoad op half rd n = (load : LoadOP) → sp_load op ≡ Some load → IsCiType (read_of op) half (space_bits (ci_numbers op).space) (load_size load * n) rd (ci_numbers op).funct3

pub lwsp_layout : (op : CiOp) (half rd n : ℕ) → op ≡ ci.CLwsp → IsCiType lwsp_imm half (space_bits (ci_numbers op).space) (4 * n) rd (ci_numbers op).funct3 → IsSpLoad op half rd n
lwsp_layout ci.CLwsp half rd n is h loads.Lw loaded = h
lwsp_layout ci.CLwsp half rd n is h _ loaded = absurd (cc)
lwsp_layout _ half rd n is h load loaded = absurd (cc)

pub ldsp_layout : (op : CiOp) (half rd n : ℕ) → op ≢ ci.CLwsp → IsCiType ldsp_imm half (space_bits (ci_numbers op).space) (8 * n) rd (ci_numbers op).funct3 → IsSpLoad op half rd n
ldsp_layout ci.CLdsp half rd n other h loads.Ld loaded = h
ldsp_layout ci.CLdsp half rd n other h _ loaded = absurd (cc)
ldsp_layout ci.CLwsp half rd n other h load loaded = absurd (other refl)
ldsp_layout _ half rd n other h load loaded = absurd (cc)

pub sp_load_decodes : (flags : IsaFlags) (op : CiOp) (load : LoadOP) (half rd n : ℕ) → flags.has_zca ≡ true → sp_load op ≡ Some load → 0 < rd → IsCiType (read_of op) half (space_bits (ci_numbers op).space) (load_size load * n) rd (ci_numbers op).funct3 → decode_half flags half ≡ Some (decoded_sp_load load rd n)
sp_load_decodes flags ci.CLwsp loads.Lw half rd n zca loaded some h = quadrant_decodes flags half _ zca h.op_is (rw (h.funct3_is, h.rd_is, nonzero rd some, h.imm_is))
sp_load_decodes flags ci.CLwsp _ half rd n zca loaded some h = absurd (cc)
sp_load_decodes flags ci.CLdsp loads.Ld half rd n zca loaded some h = quadrant_decodes flags half _ zca h.op_is (rw (h.funct3_is, h.rd_is, nonzero rd some, h.imm_is))
sp_load_decodes flags ci.CLdsp _ half rd n zca loaded some h = absurd (cc)
sp_load_decodes flags _ load half rd n zca loaded some h = absurd (cc)

pub swsp_decodes : (flags : IsaFlags) (op : CssOp) (half rs2 n : ℕ) → op ≡ css.CSwsp → flags.has_zca ≡ true → IsCssType swsp_imm half (space_bits (css_numbers op).space) rs2 (4 * n) (css_numbers op).funct3 → decode_half flags half ≡ Some (decoded_css op rs2 n)
swsp_decodes flags css.CSwsp half rs2 n is zca h = quadrant_decodes flags half _ zca h.op_is (rw (h.funct3_is, h.rs2_is, h.imm_is))
swsp_decodes flags css.CSdsp half rs2 n is zca h = absurd (cc)

pub sdsp_decodes : (flags : IsaFlags) (op : CssOp) (half rs2 n : ℕ) → op ≡ css.CSdsp → flags.has_zca ≡ true → IsCssType sdsp_imm half (space_bits (css_numbers op).space) rs2 (8 * n) (css_numbers op).funct3 → decode_half flags half ≡ Some (decoded_css op rs2 n)
sdsp_decodes flags css.CSwsp half rs2 n is zca h = absurd (cc)
sdsp_decodes flags css.CSdsp half rs2 n is zca h = quadrant_decodes flags half _ zca h.op_is (rw (h.funct3_is, h.rs2_is, h.imm_is))

pub swsp_layout : (op : CssOp) (half rs2 n : ℕ) → op ≡ css.CSwsp → IsCssType swsp_imm half (space_bits (css_numbers op).space) rs2 (4 * n) (css_numbers op).funct3 → IsCssType (css_read op) half (space_bits (css_numbers op).space) rs2 (store_size (css_store op) * n) (css_numbers op).funct3
swsp_layout css.CSwsp half rs2 n is h = h
swsp_layout css.CSdsp half rs2 n is h = absurd (cc)

pub sdsp_layout : (op : CssOp) (half rs2 n : ℕ) → op ≡ css.CSdsp → IsCssType sdsp_imm half (space_bits (css_numbers op).space) rs2 (8 * n) (css_numbers op).funct3 → IsCssType (css_read op) half (space_bits (css_numbers op).space) rs2 (store_size (css_store op) * n) (css_numbers op).funct3
sdsp_layout css.CSwsp half rs2 n is h = absurd (cc)
sdsp_layout css.CSdsp half rs2 n is h = h

-- ---- CL

pub lw_layout : (op : ClOp) (half rd rs1 n : ℕ) → op ≡ cl.CLw → IsClType lw_imm half (space_bits (cl_numbers op).space) rd (4 * n) rs1 (cl_numbers op).funct3 → IsClType (cl_read op) half (space_bits (cl_numbers op).space) rd (load_size (cl_load op) * n) rs1 (cl_numbers op).funct3
lw_layout cl.CLw half rd rs1 n is h = h
lw_layout cl.CLd half rd rs1 n is h = absurd (cc)

pub ld_layout : (op : ClOp) (half rd rs1 n : ℕ) → op ≡ cl.CLd → IsClType ld_imm half (space_bits (cl_numbers op).space) rd (8 * n) rs1 (cl_numbers op).funct3 → IsClType (cl_read op) half (space_bits (cl_numbers op).space) rd (load_size (cl_load op) * n) rs1 (cl_numbers op).funct3
ld_layout cl.CLw half rd rs1 n is h = absurd (cc)
ld_layout cl.CLd half rd rs1 n is h = h

pub lw_decodes : (flags : IsaFlags) (op : ClOp) (half rd rs1 n : ℕ) → op ≡ cl.CLw → flags.has_zca ≡ true → IsClType lw_imm half (space_bits (cl_numbers op).space) rd (4 * n) rs1 (cl_numbers op).funct3 → decode_half flags half ≡ Some (decoded_cl op (8 + rd) (8 + rs1) n)
lw_decodes flags cl.CLw half rd rs1 n is zca h = quadrant_decodes flags half _ zca h.op_is (rw (h.funct3_is, h.r_is, h.rs1_is, h.imm_is))
lw_decodes flags cl.CLd half rd rs1 n is zca h = absurd (cc)

pub ld_decodes : (flags : IsaFlags) (op : ClOp) (half rd rs1 n : ℕ) → op ≡ cl.CLd → flags.has_zca ≡ true → IsClType ld_imm half (space_bits (cl_numbers op).space) rd (8 * n) rs1 (cl_numbers op).funct3 → decode_half flags half ≡ Some (decoded_cl op (8 + rd) (8 + rs1) n)
ld_decodes flags cl.CLw half rd rs1 n is zca h = absurd (cc)
ld_decodes flags cl.CLd half rd rs1 n is zca h = quadrant_decodes flags half _ zca h.op_is (rw (h.funct3_is, h.r_is, h.rs1_is, h.imm_is))

-- ---- CS

pub sw_layout : (op : CsOp) (half rs2 rs1 n : ℕ) → op ≡ cs.CSw → IsClType lw_imm half (space_bits (cs_numbers op).space) rs2 (4 * n) rs1 (cs_numbers op).funct3 → IsClType (cs_read op) half (space_bits (cs_numbers op).space) rs2 (store_size (cs_store op) * n) rs1 (cs_numbers op).funct3
sw_layout cs.CSw half rs2 rs1 n is h = h
sw_layout cs.CSd half rs2 rs1 n is h = absurd (cc)

pub sd_layout : (op : CsOp) (half rs2 rs1 n : ℕ) → op ≡ cs.CSd → IsClType ld_imm half (space_bits (cs_numbers op).space) rs2 (8 * n) rs1 (cs_numbers op).funct3 → IsClType (cs_read op) half (space_bits (cs_numbers op).space) rs2 (store_size (cs_store op) * n) rs1 (cs_numbers op).funct3
sd_layout cs.CSw half rs2 rs1 n is h = absurd (cc)
sd_layout cs.CSd half rs2 rs1 n is h = h

pub sw_decodes : (flags : IsaFlags) (op : CsOp) (half rs2 rs1 n : ℕ) → op ≡ cs.CSw → flags.has_zca ≡ true → IsClType lw_imm half (space_bits (cs_numbers op).space) rs2 (4 * n) rs1 (cs_numbers op).funct3 → decode_half flags half ≡ Some (decoded_cs op (8 + rs2) (8 + rs1) n)
sw_decodes flags cs.CSw half rs2 rs1 n is zca h = quadrant_decodes flags half _ zca h.op_is (rw (h.funct3_is, h.r_is, h.rs1_is, h.imm_is))
sw_decodes flags cs.CSd half rs2 rs1 n is zca h = absurd (cc)

pub sd_decodes : (flags : IsaFlags) (op : CsOp) (half rs2 rs1 n : ℕ) → op ≡ cs.CSd → flags.has_zca ≡ true → IsClType ld_imm half (space_bits (cs_numbers op).space) rs2 (8 * n) rs1 (cs_numbers op).funct3 → decode_half flags half ≡ Some (decoded_cs op (8 + rs2) (8 + rs1) n)
sd_decodes flags cs.CSw half rs2 rs1 n is zca h = absurd (cc)
sd_decodes flags cs.CSd half rs2 rs1 n is zca h = quadrant_decodes flags half _ zca h.op_is (rw (h.funct3_is, h.r_is, h.rs1_is, h.imm_is))

-- ---- Zcb

zcb_decodes : {d : Decoded} (flags : IsaFlags) (half funct6 : ℕ) → zcb_needs flags ≡ true → half_op half ≡ 0 → bits half 15 10 ≡ funct6 → funct6 / 8 ≡ 4 → decode_zcb_memory half ≡ Some d → decode_half flags half ≡ Some d
zcb_decodes flags half funct6 needs op is among memory =
    let funct3 : half_funct3 half ≡ 4 = omega (arith, is, among) in
    let (zca, zcb) = both flags.has_zca flags.has_zcb needs in
    quadrant_decodes flags half 0 zca op (rw (funct3, zcb) memory)

-- bits 12 to 10 are those of funct6
bits12 : (half funct6 : ℕ) → bits half 15 10 ≡ funct6 → bits half 12 10 ≡ funct6 % 8
bits12 half funct6 is = omega (arith, is)

-- bit 6 of the operations of halfwords, which isn't of their immediate
abbrev pub funct1_of : ZcbMemOp → Option ℕ
funct1_of zcb.CLbu = None
funct1_of zcb.CLhu = Some 0
funct1_of zcb.CLh = Some 1
funct1_of zcb.CSb = None
funct1_of zcb.CSh = Some 0

pub of_bytes : (op : ZcbMemOp) → (op ≡ zcb.CLbu) ⊎ (op ≡ zcb.CSb) → funct1_of op ≡ None
of_bytes op (inl is) = ap funct1_of is
of_bytes op (inr is) = ap funct1_of is

pub without_sign : (op : ZcbMemOp) → (op ≡ zcb.CLhu) ⊎ (op ≡ zcb.CSh) → funct1_of op ≡ Some 0
without_sign op (inl is) = ap funct1_of is
without_sign op (inr is) = ap funct1_of is

pub bytes_layout : (op : ZcbMemOp) (half r rs1 n : ℕ) → funct1_of op ≡ None → IsClbType half (space_bits (zcb_numbers op).space) r n rs1 (zcb_numbers op).funct6 → IsZcbType op half r n rs1
bytes_layout zcb.CLbu half r rs1 n is h = h
bytes_layout zcb.CSb half r rs1 n is h = h
bytes_layout _ half r rs1 n is h = absurd (cc)

pub halfwords_layout : (op : ZcbMemOp) (half r funct1 rs1 n : ℕ) → funct1_of op ≡ Some funct1 → IsClhType half (space_bits (zcb_numbers op).space) r (2 * n) funct1 rs1 (zcb_numbers op).funct6 → IsZcbType op half r n rs1
halfwords_layout zcb.CLhu half r funct1 rs1 n is h = let bit : funct1 ≡ 0 = cc in subst (λ f. IsClhType half 0 r (2 * n) f rs1 33) bit h
halfwords_layout zcb.CLh half r funct1 rs1 n is h = let bit : funct1 ≡ 1 = cc in subst (λ f. IsClhType half 0 r (2 * n) f rs1 33) bit h
halfwords_layout zcb.CSh half r funct1 rs1 n is h = let bit : funct1 ≡ 0 = cc in subst (λ f. IsClhType half 0 r (2 * n) f rs1 35) bit h
halfwords_layout _ half r funct1 rs1 n is h = absurd (cc)

pub bytes_decode : (flags : IsaFlags) (op : ZcbMemOp) (half r rs1 n : ℕ) → funct1_of op ≡ None → zcb_needs flags ≡ true → IsClbType half (space_bits (zcb_numbers op).space) r n rs1 (zcb_numbers op).funct6 → decode_half flags half ≡ Some (decoded_zcb op (8 + r) (8 + rs1) n)
bytes_decode flags zcb.CLbu half r rs1 n is needs h = zcb_decodes flags half _ needs h.op_is h.funct6_is refl (rw (bits12 half _ h.funct6_is, h.r_is, h.rs1_is, h.imm_is))
bytes_decode flags zcb.CSb half r rs1 n is needs h = zcb_decodes flags half _ needs h.op_is h.funct6_is refl (rw (bits12 half _ h.funct6_is, h.r_is, h.rs1_is, h.imm_is))
bytes_decode flags _ half r rs1 n is needs h = absurd (cc)

pub halfwords_decode : (flags : IsaFlags) (op : ZcbMemOp) (half r funct1 rs1 n : ℕ) → funct1_of op ≡ Some funct1 → zcb_needs flags ≡ true → IsClhType half (space_bits (zcb_numbers op).space) r (2 * n) funct1 rs1 (zcb_numbers op).funct6 → decode_half flags half ≡ Some (decoded_zcb op (8 + r) (8 + rs1) n)
halfwords_decode flags zcb.CLhu half r funct1 rs1 n is needs h =
    zcb_decodes flags half _ needs h.op_is h.funct6_is refl (rw (bits12 half _ h.funct6_is, h.funct1_is ∙ ap (λ o. unwrap_or o 0) (sym is), h.r_is, h.rs1_is, h.imm_is))
halfwords_decode flags zcb.CLh half r funct1 rs1 n is needs h =
    zcb_decodes flags half _ needs h.op_is h.funct6_is refl (rw (bits12 half _ h.funct6_is, h.funct1_is ∙ ap (λ o. unwrap_or o 0) (sym is), h.r_is, h.rs1_is, h.imm_is))
halfwords_decode flags zcb.CSh half r funct1 rs1 n is needs h =
    zcb_decodes flags half _ needs h.op_is h.funct6_is refl (rw (bits12 half _ h.funct6_is, h.funct1_is ∙ ap (λ o. unwrap_or o 0) (sym is), h.r_is, h.rs1_is, h.imm_is))
halfwords_decode flags _ half r funct1 rs1 n is needs h = absurd (cc)

-- the quadrant and funct3
among_zcb : (op : ZcbMemOp) → (space_bits (zcb_numbers op).space ≡ 0) × ((zcb_numbers op).funct6 / 8 ≡ 4)
among_zcb zcb.CLbu = (refl, refl)
among_zcb _ = (refl, refl)

pub zcb_without : (flags : IsaFlags) (op : ZcbMemOp) (half : ℕ) → zcb_needs flags ≡ false → half_op half ≡ space_bits (zcb_numbers op).space → bits half 15 10 ≡ (zcb_numbers op).funct6 → decode_half flags half ≡ None
zcb_without flags op half off space is =
    let (quadrant, among) = among_zcb op in
    let funct3 : half_funct3 half ≡ 4 = omega (arith, is, among) in
    let op : half_op half ≡ 0 = space ∙ quadrant in
    quadrant_is flags half 0 op (rw (op, funct3)) ∙ rw funct3 (two_guards flags.has_zca flags.has_zcb (decode_zcb_memory half) off)
