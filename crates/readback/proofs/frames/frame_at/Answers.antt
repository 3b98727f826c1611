-- `readback::frames::frame_at` meets its contract, by where the end and the targets lie. Assumes nothing.
use mathlib.Core.Path.{◌≡◌, refl, subst, sym}
use mathlib.Core.List.{List}
use Prim.Native.Nat.{ℕ, ◌+◌, ◌<◌, ◌≤◌}
use native.Mathlib.Omega.{arith}
use lib.ListN.{length, get_or, take}
use lib.Seq.{take-length}
use Rattle.rules.specs.Output.{frame_of}
use Rattle.readback.specs.ReadBack.{data_of}
use Rattle.std.specs.Prelude.{Option}
use Rattle.rules.specs.Forms.{size_at}
use Rattle.instruction.proofs.Numbers.{size_bound}
use Rattle.decoding.specs.Opcodes.{form_of_byte}
use Rattle.decoding.proofs.Tables.{named_at, shaped}
use Rattle.readback.specs.Frames.{Instruction, FrameOf}
use Rattle.readback.proofs.OneFrame.{step, cut_frame, whole_frame, alone_frame}
use Rattle.readback.proofs.frames.frame_at.Goals as goal

-- the form that the first byte names
abbrev form : List ℕ → ℕ
form s = form_of_byte (get_or s 0 0)

-- what the instruction's room holds, whatever the code calls the form and its size
instruction : (s : List ℕ) (q f n : ℕ) (room : List ℕ) (x w : Option ℕ) → x ≡ w → f ≡ form s → n ≡ size_at (form s)
    → Instruction f s (q + n) x room → Instruction (form s) s (q + size_at (form s)) w room
instruction s q f n room x w e g h i =
    let a = subst (λ (y : Option ℕ). Instruction f s (q + n) y room) e i in
    let b = subst (λ (g : ℕ). Instruction g s (q + n) w room) g a in
    subst (λ (m : ℕ). Instruction (form s) s (q + m) w room) h b

pub returns-then-n-size : goal.returns-then-n-size
returns-then-n-size c =
    let s = c.args.s.now in
    let d = c.put_data in
    let l : length s < size_at (form s) = omega (arith, c.if-n-size.true, c.decode-opcode.ensures.1) in
    let all : take d.result d.new.frame ≡ frame_of (data_of s) = cc (d.ensures.0, take-length s) in
    cut_frame c.args.q.0 s (form s) refl d.result d.new.frame d.ensures.1 l c.requires.0 all

pub put_instruction-requires : goal.put_instruction-requires
put_instruction-requires c =
    let low = (named_at (get_or c.args.s.now 0 0) (c.type_inv.s 0).fits).0 in
    (omega (arith, c.decode-opcode.ensures.0), omega (arith, c.if-n-size.false, c.requires.1), c.requires.2)

pub returns-in-Some : goal.returns-in-Some
returns-in-Some c =
    let s = c.args.s.now in
    let q = c.args.q.0 in
    let o = c.decode-opcode in
    let i = c.put_instruction in
    let end = c.in-Some.end in
    let low : form s < 70 = (named_at (get_or s 0 0) (c.type_inv.s 0).fits).0 in
    let there : size_at (form s) ≤ length s = omega (arith, c.if-n-size.false, o.ensures.1) in
    let g = instruction s q o.result.0 o.result.1 i.new.frame i.result _ c.in-Some.is o.ensures.0 o.ensures.1 i.ensures in
    subst (λ (n : ℕ). FrameOf q s (step n end) i.new.frame) (sym o.ensures.1)
    (whole_frame q s (form s) refl end i.new.frame g.2 there (shaped (form s) low).some g.0 g.1)

pub returns-in-None : goal.returns-in-None
returns-in-None c =
    let s = c.args.s.now in
    let q = c.args.q.0 in
    let o = c.decode-opcode in
    let i = c.put_instruction in
    let d = c.put_data-in-None in
    let there : size_at (form s) ≤ length s = omega (arith, c.if-n-size.false, o.ensures.1) in
    let g = instruction s q o.result.0 o.result.1 i.new.frame i.result _ c.in-None.is o.ensures.0 o.ensures.1 i.ensures in
    alone_frame q s (form s) refl d.result d.new.frame d.ensures.1 there c.requires.0 g d.ensures.0
