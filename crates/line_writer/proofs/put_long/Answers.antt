-- The five bytes are stored one after the other.
use mathlib.Core.Path.{refl}
use Rattle.line_writer.proofs.Digits.{field_stored}
use Rattle.line_writer.proofs.put_long.Goals as goal

pub returns : goal.returns
returns c =
    let is = c.digits_of-f.ensures in record {
      text = field_stored c.args.n _ is c.args.cell.now c.requires
          c.place.ensures refl c.place-2.ensures refl
          c.place-3.ensures refl c.place-4.ensures refl
          c.place-5.ensures refl;
      count = (is.count, is.few);
    }
