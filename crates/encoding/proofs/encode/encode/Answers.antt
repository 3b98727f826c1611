-- `encoding::encode::encode` meets its contract: in each arm the instruction is the arm's, and its pattern computes to what the
-- shape's function ensures. Assumes nothing.
use mathlib.Core.Path.{◌≡◌, ◌∙◌, sym, ap}
use Prim.Native.Nat.{ℕ}
use Rattle.laws.specs.Bits.{byte_of, bits}
use Rattle.rules.specs.declared.Instr.{Instr}
use Rattle.rules.specs.declared.Code.{Code}
use Rattle.rules.specs.Forms.{form_at}
use Rattle.rules.specs.Patterns.{rows_of}
use Rattle.rules.specs.Instructions.{enc_of}
use Rattle.encoding.proofs.encode.encode.Goals as goal

via : (a b c : ℕ) {i j : Instr} {r m : Code} → i ≡ j → r ≡ m → m ≡ enc_of j a b c → r ≡ enc_of i a b c
via a b c e f g = f ∙ g ∙ sym (ap (λ (k : Instr). enc_of k a b c) e)

pub returns-in-Add_i8 : goal.returns-in-Add_i8
unfolding enc_of rows_of form_at byte_of bits
returns-in-Add_i8 c = search via

pub returns-in-Add_d9 : goal.returns-in-Add_d9
unfolding enc_of rows_of form_at byte_of bits
returns-in-Add_d9 c = search via

pub returns-in-Add_Ri : goal.returns-in-Add_Ri
unfolding enc_of rows_of form_at byte_of bits
returns-in-Add_Ri c = search via

pub returns-in-Addc_i8 : goal.returns-in-Addc_i8
unfolding enc_of rows_of form_at byte_of bits
returns-in-Addc_i8 c = search via

pub returns-in-Addc_d9 : goal.returns-in-Addc_d9
unfolding enc_of rows_of form_at byte_of bits
returns-in-Addc_d9 c = search via

pub returns-in-Addc_Ri : goal.returns-in-Addc_Ri
unfolding enc_of rows_of form_at byte_of bits
returns-in-Addc_Ri c = search via

pub returns-in-Sub_i8 : goal.returns-in-Sub_i8
unfolding enc_of rows_of form_at byte_of bits
returns-in-Sub_i8 c = search via

pub returns-in-Sub_d9 : goal.returns-in-Sub_d9
unfolding enc_of rows_of form_at byte_of bits
returns-in-Sub_d9 c = search via

pub returns-in-Sub_Ri : goal.returns-in-Sub_Ri
unfolding enc_of rows_of form_at byte_of bits
returns-in-Sub_Ri c = search via

pub returns-in-Subc_i8 : goal.returns-in-Subc_i8
unfolding enc_of rows_of form_at byte_of bits
returns-in-Subc_i8 c = search via

pub returns-in-Subc_d9 : goal.returns-in-Subc_d9
unfolding enc_of rows_of form_at byte_of bits
returns-in-Subc_d9 c = search via

pub returns-in-Subc_Ri : goal.returns-in-Subc_Ri
unfolding enc_of rows_of form_at byte_of bits
returns-in-Subc_Ri c = search via

pub returns-in-Inc_d9 : goal.returns-in-Inc_d9
unfolding enc_of rows_of form_at byte_of bits
returns-in-Inc_d9 c = search via

pub returns-in-Inc_Ri : goal.returns-in-Inc_Ri
unfolding enc_of rows_of form_at byte_of bits
returns-in-Inc_Ri c = search via

pub returns-in-Dec_d9 : goal.returns-in-Dec_d9
unfolding enc_of rows_of form_at byte_of bits
returns-in-Dec_d9 c = search via

pub returns-in-Dec_Ri : goal.returns-in-Dec_Ri
unfolding enc_of rows_of form_at byte_of bits
returns-in-Dec_Ri c = search via

pub returns-in-Mul : goal.returns-in-Mul
unfolding enc_of rows_of form_at byte_of bits
returns-in-Mul c = search via

pub returns-in-Div : goal.returns-in-Div
unfolding enc_of rows_of form_at byte_of bits
returns-in-Div c = search via

pub returns-in-And_i8 : goal.returns-in-And_i8
unfolding enc_of rows_of form_at byte_of bits
returns-in-And_i8 c = search via

pub returns-in-And_d9 : goal.returns-in-And_d9
unfolding enc_of rows_of form_at byte_of bits
returns-in-And_d9 c = search via

pub returns-in-And_Ri : goal.returns-in-And_Ri
unfolding enc_of rows_of form_at byte_of bits
returns-in-And_Ri c = search via

pub returns-in-Or_i8 : goal.returns-in-Or_i8
unfolding enc_of rows_of form_at byte_of bits
returns-in-Or_i8 c = search via

pub returns-in-Or_d9 : goal.returns-in-Or_d9
unfolding enc_of rows_of form_at byte_of bits
returns-in-Or_d9 c = search via

pub returns-in-Or_Ri : goal.returns-in-Or_Ri
unfolding enc_of rows_of form_at byte_of bits
returns-in-Or_Ri c = search via

pub returns-in-Xor_i8 : goal.returns-in-Xor_i8
unfolding enc_of rows_of form_at byte_of bits
returns-in-Xor_i8 c = search via

pub returns-in-Xor_d9 : goal.returns-in-Xor_d9
unfolding enc_of rows_of form_at byte_of bits
returns-in-Xor_d9 c = search via

pub returns-in-Xor_Ri : goal.returns-in-Xor_Ri
unfolding enc_of rows_of form_at byte_of bits
returns-in-Xor_Ri c = search via

pub returns-in-Rol : goal.returns-in-Rol
unfolding enc_of rows_of form_at byte_of bits
returns-in-Rol c = search via

pub returns-in-Rolc : goal.returns-in-Rolc
unfolding enc_of rows_of form_at byte_of bits
returns-in-Rolc c = search via

pub returns-in-Ror : goal.returns-in-Ror
unfolding enc_of rows_of form_at byte_of bits
returns-in-Ror c = search via

pub returns-in-Rorc : goal.returns-in-Rorc
unfolding enc_of rows_of form_at byte_of bits
returns-in-Rorc c = search via

pub returns-in-Ld_d9 : goal.returns-in-Ld_d9
unfolding enc_of rows_of form_at byte_of bits
returns-in-Ld_d9 c = search via

pub returns-in-Ld_Ri : goal.returns-in-Ld_Ri
unfolding enc_of rows_of form_at byte_of bits
returns-in-Ld_Ri c = search via

pub returns-in-St_d9 : goal.returns-in-St_d9
unfolding enc_of rows_of form_at byte_of bits
returns-in-St_d9 c = search via

pub returns-in-St_Ri : goal.returns-in-St_Ri
unfolding enc_of rows_of form_at byte_of bits
returns-in-St_Ri c = search via

pub returns-in-Mov_d9 : goal.returns-in-Mov_d9
unfolding enc_of rows_of form_at byte_of bits
returns-in-Mov_d9 c = search via

pub returns-in-Mov_Rj : goal.returns-in-Mov_Rj
unfolding enc_of rows_of form_at byte_of bits
returns-in-Mov_Rj c = search via

pub returns-in-Ldc : goal.returns-in-Ldc
unfolding enc_of rows_of form_at byte_of bits
returns-in-Ldc c = search via

pub returns-in-Push : goal.returns-in-Push
unfolding enc_of rows_of form_at byte_of bits
returns-in-Push c = search via

pub returns-in-Pop : goal.returns-in-Pop
unfolding enc_of rows_of form_at byte_of bits
returns-in-Pop c = search via

pub returns-in-Xch_d9 : goal.returns-in-Xch_d9
unfolding enc_of rows_of form_at byte_of bits
returns-in-Xch_d9 c = search via

pub returns-in-Xch_Ri : goal.returns-in-Xch_Ri
unfolding enc_of rows_of form_at byte_of bits
returns-in-Xch_Ri c = search via

pub returns-in-Jmp : goal.returns-in-Jmp
unfolding enc_of rows_of form_at byte_of bits
returns-in-Jmp c = search via

pub returns-in-Jmpf : goal.returns-in-Jmpf
unfolding enc_of rows_of form_at byte_of bits
returns-in-Jmpf c = search via

pub returns-in-Br : goal.returns-in-Br
unfolding enc_of rows_of form_at byte_of bits
returns-in-Br c = search via

pub returns-in-Brf : goal.returns-in-Brf
unfolding enc_of rows_of form_at byte_of bits
returns-in-Brf c = search via

pub returns-in-Bz : goal.returns-in-Bz
unfolding enc_of rows_of form_at byte_of bits
returns-in-Bz c = search via

pub returns-in-Bnz : goal.returns-in-Bnz
unfolding enc_of rows_of form_at byte_of bits
returns-in-Bnz c = search via

pub returns-in-Bp : goal.returns-in-Bp
unfolding enc_of rows_of form_at byte_of bits
returns-in-Bp c = search via

pub returns-in-Bpc : goal.returns-in-Bpc
unfolding enc_of rows_of form_at byte_of bits
returns-in-Bpc c = search via

pub returns-in-Bn : goal.returns-in-Bn
unfolding enc_of rows_of form_at byte_of bits
returns-in-Bn c = search via

pub returns-in-Dbnz_d9 : goal.returns-in-Dbnz_d9
unfolding enc_of rows_of form_at byte_of bits
returns-in-Dbnz_d9 c = search via

pub returns-in-Dbnz_Ri : goal.returns-in-Dbnz_Ri
unfolding enc_of rows_of form_at byte_of bits
returns-in-Dbnz_Ri c = search via

pub returns-in-Be_i8 : goal.returns-in-Be_i8
unfolding enc_of rows_of form_at byte_of bits
returns-in-Be_i8 c = search via

pub returns-in-Be_d9 : goal.returns-in-Be_d9
unfolding enc_of rows_of form_at byte_of bits
returns-in-Be_d9 c = search via

pub returns-in-Be_Rj : goal.returns-in-Be_Rj
unfolding enc_of rows_of form_at byte_of bits
returns-in-Be_Rj c = search via

pub returns-in-Bne_i8 : goal.returns-in-Bne_i8
unfolding enc_of rows_of form_at byte_of bits
returns-in-Bne_i8 c = search via

pub returns-in-Bne_d9 : goal.returns-in-Bne_d9
unfolding enc_of rows_of form_at byte_of bits
returns-in-Bne_d9 c = search via

pub returns-in-Bne_Rj : goal.returns-in-Bne_Rj
unfolding enc_of rows_of form_at byte_of bits
returns-in-Bne_Rj c = search via

pub returns-in-Call : goal.returns-in-Call
unfolding enc_of rows_of form_at byte_of bits
returns-in-Call c = search via

pub returns-in-Callf : goal.returns-in-Callf
unfolding enc_of rows_of form_at byte_of bits
returns-in-Callf c = search via

pub returns-in-Callr : goal.returns-in-Callr
unfolding enc_of rows_of form_at byte_of bits
returns-in-Callr c = search via

pub returns-in-Ret : goal.returns-in-Ret
unfolding enc_of rows_of form_at byte_of bits
returns-in-Ret c = search via

pub returns-in-Reti : goal.returns-in-Reti
unfolding enc_of rows_of form_at byte_of bits
returns-in-Reti c = search via

pub returns-in-Clr1 : goal.returns-in-Clr1
unfolding enc_of rows_of form_at byte_of bits
returns-in-Clr1 c = search via

pub returns-in-Set1 : goal.returns-in-Set1
unfolding enc_of rows_of form_at byte_of bits
returns-in-Set1 c = search via

pub returns-in-Not1 : goal.returns-in-Not1
unfolding enc_of rows_of form_at byte_of bits
returns-in-Not1 c = search via

pub returns-in-Nop : goal.returns-in-Nop
unfolding enc_of rows_of form_at byte_of bits
returns-in-Nop c = search via

pub returns-in-Ldf : goal.returns-in-Ldf
unfolding enc_of rows_of form_at byte_of bits
returns-in-Ldf c = search via

pub returns-in-Stf : goal.returns-in-Stf
unfolding enc_of rows_of form_at byte_of bits
returns-in-Stf c = search via
