-- `digits::put_byte` meets its contract: two stores in a row.
use Rattle.digits.proofs.Rooms.{laid_two}
use Rattle.digits.proofs.put_byte.Goals as goal

pub returns : goal.returns
returns c =
    let a = c.args in
    rw (c.hex_digit.ensures, c.hex_digit-2.ensures) (laid_two a.out.now a.at _ _ c.requires)
