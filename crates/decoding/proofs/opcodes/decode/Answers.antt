-- `decoding::opcodes::decode` meets its contract: each arm by a test of its bytes. First the arms of one byte, then those of several, whose
-- bytes are none of the former. Assumes nothing.
use Prim.Native.Nat.{zero-le}
use native.Mathlib.Omega.{arith}
use Rattle.laws.specs.Counts.{all_to}
use Rattle.laws.specs.Lists.{every}
use Rattle.rules.specs.Forms.{form_at}
use Rattle.decoding.specs.Opcodes.{form_among, form_of_byte}
use Rattle.decoding.proofs.Arms.{arm, rest_arm}
use Rattle.decoding.proofs.opcodes.decode.Goals as goal

pub returns-in-0 : goal.returns-in-0
unfolding all_to every form_at form_among form_of_byte
returns-in-0 c = arm 0x00 1 0x43 1 tt {b = c.args.b} (omega arith) (omega arith)

pub returns-in-1 : goal.returns-in-1
unfolding all_to every form_at form_among form_of_byte
returns-in-1 c = arm 0x01 1 0x2C 2 tt {b = c.args.b} (omega arith) (omega arith)

pub returns-in-16 : goal.returns-in-16
unfolding all_to every form_at form_among form_of_byte
returns-in-16 c = arm 0x10 1 0x3D 3 tt {b = c.args.b} (omega arith) (omega arith)

pub returns-in-17 : goal.returns-in-17
unfolding all_to every form_at form_among form_of_byte
returns-in-17 c = arm 0x11 1 0x2D 3 tt {b = c.args.b} (omega arith) (omega arith)

pub returns-in-32 : goal.returns-in-32
unfolding all_to every form_at form_among form_of_byte
returns-in-32 c = arm 0x20 1 0x3C 3 tt {b = c.args.b} (omega arith) (omega arith)

pub returns-in-33 : goal.returns-in-33
unfolding all_to every form_at form_among form_of_byte
returns-in-33 c = arm 0x21 1 0x2B 3 tt {b = c.args.b} (omega arith) (omega arith)

pub returns-in-48 : goal.returns-in-48
unfolding all_to every form_at form_among form_of_byte
returns-in-48 c = arm 0x30 1 0x10 1 tt {b = c.args.b} (omega arith) (omega arith)

pub returns-in-49 : goal.returns-in-49
unfolding all_to every form_at form_among form_of_byte
returns-in-49 c = arm 0x31 1 0x35 3 tt {b = c.args.b} (omega arith) (omega arith)

pub returns-in-64 : goal.returns-in-64
unfolding all_to every form_at form_among form_of_byte
returns-in-64 c = arm 0x40 1 0x11 1 tt {b = c.args.b} (omega arith) (omega arith)

pub returns-in-65 : goal.returns-in-65
unfolding all_to every form_at form_among form_of_byte
returns-in-65 c = arm 0x41 1 0x38 3 tt {b = c.args.b} (omega arith) (omega arith)

pub returns-in-80 : goal.returns-in-80
unfolding all_to every form_at form_among form_of_byte
returns-in-80 c = arm 0x50 1 0x44 1 tt {b = c.args.b} (omega arith) (omega arith)

pub returns-in-81 : goal.returns-in-81
unfolding all_to every form_at form_among form_of_byte
returns-in-81 c = arm 0x51 1 0x45 1 tt {b = c.args.b} (omega arith) (omega arith)

pub returns-in-128 : goal.returns-in-128
unfolding all_to every form_at form_among form_of_byte
returns-in-128 c = arm 0x80 1 0x2E 2 tt {b = c.args.b} (omega arith) (omega arith)

pub returns-in-129 : goal.returns-in-129
unfolding all_to every form_at form_among form_of_byte
returns-in-129 c = arm 0x81 1 0x00 2 tt {b = c.args.b} (omega arith) (omega arith)

pub returns-in-144 : goal.returns-in-144
unfolding all_to every form_at form_among form_of_byte
returns-in-144 c = arm 0x90 1 0x2F 2 tt {b = c.args.b} (omega arith) (omega arith)

pub returns-in-145 : goal.returns-in-145
unfolding all_to every form_at form_among form_of_byte
returns-in-145 c = arm 0x91 1 0x03 2 tt {b = c.args.b} (omega arith) (omega arith)

pub returns-in-160 : goal.returns-in-160
unfolding all_to every form_at form_among form_of_byte
returns-in-160 c = arm 0xA0 1 0x3E 1 tt {b = c.args.b} (omega arith) (omega arith)

pub returns-in-161 : goal.returns-in-161
unfolding all_to every form_at form_among form_of_byte
returns-in-161 c = arm 0xA1 1 0x06 2 tt {b = c.args.b} (omega arith) (omega arith)

pub returns-in-176 : goal.returns-in-176
unfolding all_to every form_at form_among form_of_byte
returns-in-176 c = arm 0xB0 1 0x3F 1 tt {b = c.args.b} (omega arith) (omega arith)

pub returns-in-177 : goal.returns-in-177
unfolding all_to every form_at form_among form_of_byte
returns-in-177 c = arm 0xB1 1 0x09 2 tt {b = c.args.b} (omega arith) (omega arith)

pub returns-in-192 : goal.returns-in-192
unfolding all_to every form_at form_among form_of_byte
returns-in-192 c = arm 0xC0 1 0x1D 1 tt {b = c.args.b} (omega arith) (omega arith)

pub returns-in-193 : goal.returns-in-193
unfolding all_to every form_at form_among form_of_byte
returns-in-193 c = arm 0xC1 1 0x25 1 tt {b = c.args.b} (omega arith) (omega arith)

pub returns-in-208 : goal.returns-in-208
unfolding all_to every form_at form_among form_of_byte
returns-in-208 c = arm 0xD0 1 0x1E 1 tt {b = c.args.b} (omega arith) (omega arith)

pub returns-in-209 : goal.returns-in-209
unfolding all_to every form_at form_among form_of_byte
returns-in-209 c = arm 0xD1 1 0x15 2 tt {b = c.args.b} (omega arith) (omega arith)

pub returns-in-224 : goal.returns-in-224
unfolding all_to every form_at form_among form_of_byte
returns-in-224 c = arm 0xE0 1 0x1B 1 tt {b = c.args.b} (omega arith) (omega arith)

pub returns-in-225 : goal.returns-in-225
unfolding all_to every form_at form_among form_of_byte
returns-in-225 c = arm 0xE1 1 0x12 2 tt {b = c.args.b} (omega arith) (omega arith)

pub returns-in-240 : goal.returns-in-240
unfolding all_to every form_at form_among form_of_byte
returns-in-240 c = arm 0xF0 1 0x1C 1 tt {b = c.args.b} (omega arith) (omega arith)

pub returns-in-241 : goal.returns-in-241
unfolding all_to every form_at form_among form_of_byte
returns-in-241 c = arm 0xF1 1 0x18 2 tt {b = c.args.b} (omega arith) (omega arith)

pub returns-in-2-to-3 : goal.returns-in-2-to-3
unfolding all_to every form_at form_among form_of_byte
returns-in-2-to-3 c = rest_arm 0x00 4 0x1F 2 tt {b = c.args.b} c.in-2-to-3.in_default-own.rest zero-le c.in-2-to-3.if-b-lt4-own.true

pub returns-in-4-to-7 : goal.returns-in-4-to-7
unfolding all_to every form_at form_among form_of_byte
returns-in-4-to-7 c = rest_arm 0x04 4 0x20 1 tt {b = c.args.b} c.in-4-to-7.in_default-own.rest c.in-4-to-7.if-b-lt4-own.false
    c.in-4-to-7.if-b-lt8-own.true

pub returns-in-8-to-15 : goal.returns-in-8-to-15
unfolding all_to every form_at form_among form_of_byte
returns-in-8-to-15 c = rest_arm 0x08 8 0x3B 2 tt {b = c.args.b} c.in-8-to-15.in_default-own.rest c.in-8-to-15.if-b-lt8-own.false
    c.in-8-to-15.if-b-lt16-own.true

pub returns-in-18-to-19 : goal.returns-in-18-to-19
unfolding all_to every form_at form_among form_of_byte
returns-in-18-to-19 c = rest_arm 0x10 4 0x21 2 tt {b = c.args.b} c.in-18-to-19.in_default-own.rest c.in-18-to-19.if-b-lt16-own.false
    c.in-18-to-19.if-b-lt20-own.true

pub returns-in-20-to-23 : goal.returns-in-20-to-23
unfolding all_to every form_at form_among form_of_byte
returns-in-20-to-23 c = rest_arm 0x14 4 0x22 1 tt {b = c.args.b} c.in-20-to-23.in_default-own.rest c.in-20-to-23.if-b-lt20-own.false
    c.in-20-to-23.if-b-lt24-own.true

pub returns-in-24-to-31 : goal.returns-in-24-to-31
unfolding all_to every form_at form_among form_of_byte
returns-in-24-to-31 c = rest_arm 0x18 8 0x3B 2 tt {b = c.args.b} c.in-24-to-31.in_default-own.rest c.in-24-to-31.if-b-lt24-own.false
    c.in-24-to-31.if-b-lt32-own.true

pub returns-in-34-to-35 : goal.returns-in-34-to-35
unfolding all_to every form_at form_among form_of_byte
returns-in-34-to-35 c = rest_arm 0x20 4 0x23 3 tt {b = c.args.b} c.in-34-to-35.in_default-own.rest c.in-34-to-35.if-b-lt32-own.false
    c.in-34-to-35.if-b-lt36-own.true

pub returns-in-36-to-39 : goal.returns-in-36-to-39
unfolding all_to every form_at form_among form_of_byte
returns-in-36-to-39 c = rest_arm 0x24 4 0x24 2 tt {b = c.args.b} c.in-36-to-39.in_default-own.rest c.in-36-to-39.if-b-lt36-own.false
    c.in-36-to-39.if-b-lt40-own.true

pub returns-in-40-to-47 : goal.returns-in-40-to-47
unfolding all_to every form_at form_among form_of_byte
returns-in-40-to-47 c = rest_arm 0x28 8 0x2A 2 tt {b = c.args.b} c.in-40-to-47.in_default-own.rest c.in-40-to-47.if-b-lt40-own.false
    c.in-40-to-47.if-b-lt48-own.true

pub returns-in-50-to-51 : goal.returns-in-50-to-51
unfolding all_to every form_at form_among form_of_byte
returns-in-50-to-51 c = rest_arm 0x30 4 0x36 3 tt {b = c.args.b} c.in-50-to-51.in_default-own.rest c.in-50-to-51.if-b-lt48-own.false
    c.in-50-to-51.if-b-lt52-own.true

pub returns-in-52-to-55 : goal.returns-in-52-to-55
unfolding all_to every form_at form_among form_of_byte
returns-in-52-to-55 c = rest_arm 0x34 4 0x37 3 tt {b = c.args.b} c.in-52-to-55.in_default-own.rest c.in-52-to-55.if-b-lt52-own.false
    c.in-52-to-55.if-b-lt56-own.true

pub returns-in-56-to-63 : goal.returns-in-56-to-63
unfolding all_to every form_at form_among form_of_byte
returns-in-56-to-63 c = rest_arm 0x38 8 0x2A 2 tt {b = c.args.b} c.in-56-to-63.in_default-own.rest c.in-56-to-63.if-b-lt56-own.false
    c.in-56-to-63.if-b-lt64-own.true

pub returns-in-66-to-67 : goal.returns-in-66-to-67
unfolding all_to every form_at form_among form_of_byte
returns-in-66-to-67 c = rest_arm 0x40 4 0x39 3 tt {b = c.args.b} c.in-66-to-67.in_default-own.rest c.in-66-to-67.if-b-lt64-own.false
    c.in-66-to-67.if-b-lt68-own.true

pub returns-in-68-to-71 : goal.returns-in-68-to-71
unfolding all_to every form_at form_among form_of_byte
returns-in-68-to-71 c = rest_arm 0x44 4 0x3A 3 tt {b = c.args.b} c.in-68-to-71.in_default-own.rest c.in-68-to-71.if-b-lt68-own.false
    c.in-68-to-71.if-b-lt72-own.true

pub returns-in-72-to-79 : goal.returns-in-72-to-79
unfolding all_to every form_at form_among form_of_byte
returns-in-72-to-79 c = rest_arm 0x48 8 0x31 3 tt {b = c.args.b} c.in-72-to-79.in_default-own.rest c.in-72-to-79.if-b-lt72-own.false
    c.in-72-to-79.if-b-lt80-own.true

pub returns-in-82-to-83 : goal.returns-in-82-to-83
unfolding all_to every form_at form_among form_of_byte
returns-in-82-to-83 c = rest_arm 0x50 4 0x33 3 tt {b = c.args.b} c.in-82-to-83.in_default-own.rest c.in-82-to-83.if-b-lt80-own.false
    c.in-82-to-83.if-b-lt84-own.true

pub returns-in-84-to-87 : goal.returns-in-84-to-87
unfolding all_to every form_at form_among form_of_byte
returns-in-84-to-87 c = rest_arm 0x54 4 0x34 2 tt {b = c.args.b} c.in-84-to-87.in_default-own.rest c.in-84-to-87.if-b-lt84-own.false
    c.in-84-to-87.if-b-lt88-own.true

pub returns-in-88-to-95 : goal.returns-in-88-to-95
unfolding all_to every form_at form_among form_of_byte
returns-in-88-to-95 c = rest_arm 0x58 8 0x31 3 tt {b = c.args.b} c.in-88-to-95.in_default-own.rest c.in-88-to-95.if-b-lt88-own.false
    c.in-88-to-95.if-b-lt96-own.true

pub returns-in-96-to-97 : goal.returns-in-96-to-97
unfolding all_to every form_at form_among form_of_byte
returns-in-96-to-97 c = rest_arm 0x60 2 0x26 2 tt {b = c.args.b} c.in-96-to-97.in_default-own.rest c.in-96-to-97.if-b-lt96-own.false
    c.in-96-to-97.if-b-lt98-own.true

pub returns-in-98-to-99 : goal.returns-in-98-to-99
unfolding all_to every form_at form_among form_of_byte
returns-in-98-to-99 c = rest_arm 0x62 2 0x0C 2 tt {b = c.args.b} c.in-98-to-99.in_default-own.rest c.in-98-to-99.if-b-lt98-own.false
    c.in-98-to-99.if-b-lt100-own.true

pub returns-in-100-to-103 : goal.returns-in-100-to-103
unfolding all_to every form_at form_among form_of_byte
returns-in-100-to-103 c = rest_arm 0x64 4 0x0D 1 tt {b = c.args.b} c.in-100-to-103.in_default-own.rest c.in-100-to-103.if-b-lt100-own.false
    c.in-100-to-103.if-b-lt104-own.true

pub returns-in-104-to-111 : goal.returns-in-104-to-111
unfolding all_to every form_at form_among form_of_byte
returns-in-104-to-111 c = rest_arm 0x68 8 0x30 3 tt {b = c.args.b} c.in-104-to-111.in_default-own.rest c.in-104-to-111.if-b-lt104-own.false
    c.in-104-to-111.if-b-lt112-own.true

pub returns-in-112-to-113 : goal.returns-in-112-to-113
unfolding all_to every form_at form_among form_of_byte
returns-in-112-to-113 c = rest_arm 0x70 2 0x27 2 tt {b = c.args.b} c.in-112-to-113.in_default-own.rest c.in-112-to-113.if-b-lt112-own.false
    c.in-112-to-113.if-b-lt114-own.true

pub returns-in-114-to-115 : goal.returns-in-114-to-115
unfolding all_to every form_at form_among form_of_byte
returns-in-114-to-115 c = rest_arm 0x72 2 0x0E 2 tt {b = c.args.b} c.in-114-to-115.in_default-own.rest c.in-114-to-115.if-b-lt114-own.false
    c.in-114-to-115.if-b-lt116-own.true

pub returns-in-116-to-119 : goal.returns-in-116-to-119
unfolding all_to every form_at form_among form_of_byte
returns-in-116-to-119 c = rest_arm 0x74 4 0x0F 1 tt {b = c.args.b} c.in-116-to-119.in_default-own.rest c.in-116-to-119.if-b-lt116-own.false
    c.in-116-to-119.if-b-lt120-own.true

pub returns-in-120-to-127 : goal.returns-in-120-to-127
unfolding all_to every form_at form_among form_of_byte
returns-in-120-to-127 c = rest_arm 0x78 8 0x30 3 tt {b = c.args.b} c.in-120-to-127.in_default-own.rest c.in-120-to-127.if-b-lt120-own.false
    c.in-120-to-127.if-b-lt128-own.true

pub returns-in-130-to-131 : goal.returns-in-130-to-131
unfolding all_to every form_at form_among form_of_byte
returns-in-130-to-131 c = rest_arm 0x80 4 0x01 2 tt {b = c.args.b} c.in-130-to-131.in_default-own.rest c.in-130-to-131.if-b-lt128-own.false
    c.in-130-to-131.if-b-lt132-own.true

pub returns-in-132-to-135 : goal.returns-in-132-to-135
unfolding all_to every form_at form_among form_of_byte
returns-in-132-to-135 c = rest_arm 0x84 4 0x02 1 tt {b = c.args.b} c.in-132-to-135.in_default-own.rest c.in-132-to-135.if-b-lt132-own.false
    c.in-132-to-135.if-b-lt136-own.true

pub returns-in-136-to-143 : goal.returns-in-136-to-143
unfolding all_to every form_at form_among form_of_byte
returns-in-136-to-143 c = rest_arm 0x88 8 0x32 3 tt {b = c.args.b} c.in-136-to-143.in_default-own.rest c.in-136-to-143.if-b-lt136-own.false
    c.in-136-to-143.if-b-lt144-own.true

pub returns-in-146-to-147 : goal.returns-in-146-to-147
unfolding all_to every form_at form_among form_of_byte
returns-in-146-to-147 c = rest_arm 0x90 4 0x04 2 tt {b = c.args.b} c.in-146-to-147.in_default-own.rest c.in-146-to-147.if-b-lt144-own.false
    c.in-146-to-147.if-b-lt148-own.true

pub returns-in-148-to-151 : goal.returns-in-148-to-151
unfolding all_to every form_at form_among form_of_byte
returns-in-148-to-151 c = rest_arm 0x94 4 0x05 1 tt {b = c.args.b} c.in-148-to-151.in_default-own.rest c.in-148-to-151.if-b-lt148-own.false
    c.in-148-to-151.if-b-lt152-own.true

pub returns-in-152-to-159 : goal.returns-in-152-to-159
unfolding all_to every form_at form_among form_of_byte
returns-in-152-to-159 c = rest_arm 0x98 8 0x32 3 tt {b = c.args.b} c.in-152-to-159.in_default-own.rest c.in-152-to-159.if-b-lt152-own.false
    c.in-152-to-159.if-b-lt160-own.true

pub returns-in-162-to-163 : goal.returns-in-162-to-163
unfolding all_to every form_at form_among form_of_byte
returns-in-162-to-163 c = rest_arm 0xA0 4 0x07 2 tt {b = c.args.b} c.in-162-to-163.in_default-own.rest c.in-162-to-163.if-b-lt160-own.false
    c.in-162-to-163.if-b-lt164-own.true

pub returns-in-164-to-167 : goal.returns-in-164-to-167
unfolding all_to every form_at form_among form_of_byte
returns-in-164-to-167 c = rest_arm 0xA4 4 0x08 1 tt {b = c.args.b} c.in-164-to-167.in_default-own.rest c.in-164-to-167.if-b-lt164-own.false
    c.in-164-to-167.if-b-lt168-own.true

pub returns-in-168-to-175 : goal.returns-in-168-to-175
unfolding all_to every form_at form_among form_of_byte
returns-in-168-to-175 c = rest_arm 0xA8 8 0x42 2 tt {b = c.args.b} c.in-168-to-175.in_default-own.rest c.in-168-to-175.if-b-lt168-own.false
    c.in-168-to-175.if-b-lt176-own.true

pub returns-in-178-to-179 : goal.returns-in-178-to-179
unfolding all_to every form_at form_among form_of_byte
returns-in-178-to-179 c = rest_arm 0xB0 4 0x0A 2 tt {b = c.args.b} c.in-178-to-179.in_default-own.rest c.in-178-to-179.if-b-lt176-own.false
    c.in-178-to-179.if-b-lt180-own.true

pub returns-in-180-to-183 : goal.returns-in-180-to-183
unfolding all_to every form_at form_among form_of_byte
returns-in-180-to-183 c = rest_arm 0xB4 4 0x0B 1 tt {b = c.args.b} c.in-180-to-183.in_default-own.rest c.in-180-to-183.if-b-lt180-own.false
    c.in-180-to-183.if-b-lt184-own.true

pub returns-in-184-to-191 : goal.returns-in-184-to-191
unfolding all_to every form_at form_among form_of_byte
returns-in-184-to-191 c = rest_arm 0xB8 8 0x42 2 tt {b = c.args.b} c.in-184-to-191.in_default-own.rest c.in-184-to-191.if-b-lt184-own.false
    c.in-184-to-191.if-b-lt192-own.true

pub returns-in-194-to-195 : goal.returns-in-194-to-195
unfolding all_to every form_at form_among form_of_byte
returns-in-194-to-195 c = rest_arm 0xC0 4 0x28 2 tt {b = c.args.b} c.in-194-to-195.in_default-own.rest c.in-194-to-195.if-b-lt192-own.false
    c.in-194-to-195.if-b-lt196-own.true

pub returns-in-196-to-199 : goal.returns-in-196-to-199
unfolding all_to every form_at form_among form_of_byte
returns-in-196-to-199 c = rest_arm 0xC4 4 0x29 1 tt {b = c.args.b} c.in-196-to-199.in_default-own.rest c.in-196-to-199.if-b-lt196-own.false
    c.in-196-to-199.if-b-lt200-own.true

pub returns-in-200-to-207 : goal.returns-in-200-to-207
unfolding all_to every form_at form_among form_of_byte
returns-in-200-to-207 c = rest_arm 0xC8 8 0x40 2 tt {b = c.args.b} c.in-200-to-207.in_default-own.rest c.in-200-to-207.if-b-lt200-own.false
    c.in-200-to-207.if-b-lt208-own.true

pub returns-in-210-to-211 : goal.returns-in-210-to-211
unfolding all_to every form_at form_among form_of_byte
returns-in-210-to-211 c = rest_arm 0xD0 4 0x16 2 tt {b = c.args.b} c.in-210-to-211.in_default-own.rest c.in-210-to-211.if-b-lt208-own.false
    c.in-210-to-211.if-b-lt212-own.true

pub returns-in-212-to-215 : goal.returns-in-212-to-215
unfolding all_to every form_at form_among form_of_byte
returns-in-212-to-215 c = rest_arm 0xD4 4 0x17 1 tt {b = c.args.b} c.in-212-to-215.in_default-own.rest c.in-212-to-215.if-b-lt212-own.false
    c.in-212-to-215.if-b-lt216-own.true

pub returns-in-216-to-223 : goal.returns-in-216-to-223
unfolding all_to every form_at form_among form_of_byte
returns-in-216-to-223 c = rest_arm 0xD8 8 0x40 2 tt {b = c.args.b} c.in-216-to-223.in_default-own.rest c.in-216-to-223.if-b-lt216-own.false
    c.in-216-to-223.if-b-lt224-own.true

pub returns-in-226-to-227 : goal.returns-in-226-to-227
unfolding all_to every form_at form_among form_of_byte
returns-in-226-to-227 c = rest_arm 0xE0 4 0x13 2 tt {b = c.args.b} c.in-226-to-227.in_default-own.rest c.in-226-to-227.if-b-lt224-own.false
    c.in-226-to-227.if-b-lt228-own.true

pub returns-in-228-to-231 : goal.returns-in-228-to-231
unfolding all_to every form_at form_among form_of_byte
returns-in-228-to-231 c = rest_arm 0xE4 4 0x14 1 tt {b = c.args.b} c.in-228-to-231.in_default-own.rest c.in-228-to-231.if-b-lt228-own.false
    c.in-228-to-231.if-b-lt232-own.true

pub returns-in-232-to-239 : goal.returns-in-232-to-239
unfolding all_to every form_at form_among form_of_byte
returns-in-232-to-239 c = rest_arm 0xE8 8 0x41 2 tt {b = c.args.b} c.in-232-to-239.in_default-own.rest c.in-232-to-239.if-b-lt232-own.false
    c.in-232-to-239.if-b-lt240-own.true

pub returns-in-242-to-243 : goal.returns-in-242-to-243
unfolding all_to every form_at form_among form_of_byte
returns-in-242-to-243 c = rest_arm 0xF0 4 0x19 2 tt {b = c.args.b} c.in-242-to-243.in_default-own.rest c.in-242-to-243.if-b-lt240-own.false
    c.in-242-to-243.if-b-lt244-own.true

pub returns-in-244-to-247 : goal.returns-in-244-to-247
unfolding all_to every form_at form_among form_of_byte
returns-in-244-to-247 c = rest_arm 0xF4 4 0x1A 1 tt {b = c.args.b} c.in-244-to-247.in_default-own.rest c.in-244-to-247.if-b-lt244-own.false
    c.in-244-to-247.if-b-lt248-own.true

pub returns-in_default : goal.returns-in_default
unfolding all_to every form_at form_among form_of_byte
returns-in_default c = rest_arm 0xF8 8 0x41 2 tt {b = c.args.b} c.in_default.in_default-own.rest c.in_default.if-b-lt248-own.false
    c.ranges.b.fits
