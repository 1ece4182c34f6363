use Rattle.std.proofs.Common.{arith}
use Rattle.std.proofs.lemmas.Result.{err_from_is_err_and}
use Rattle.bz_image.proofs.ImageLemmas.{image_is, image_sized, image_written}
use Rattle.bz_image.proofs.Refusals.{whole_refused, whole_short, whole_long, whole_is_ok}
use Rattle.bz_image.proofs.read.read_image.Goals as goal

pub returns-in_err-head : goal.returns-in_err-head
returns-in_err-head c =
    let p = err_from_is_err_and c.from_residual.result c.from_residual.ensures.1 in
    record {
      image = rw (p.1, p.2) (whole_refused c.args.bytes.now _ c.in_err-head.ensures.head);
      file = rw p.1 tt;
      sized = rw p.1 tt;
    }

pub returns-then-bytes-length : goal.returns-then-bytes-length
returns-then-bytes-length c = record {
  image = whole_short c.args.bytes.now c.in_ok-head.head c.image_bytes-length.result c.in_ok-head.ensures.head c.image_bytes-length.ensures c.if-bytes-length.true;
  file = tt;
  sized = tt;
}

pub returns-then-length-bytes : goal.returns-then-length-bytes
returns-then-length-bytes c = record {
  image = whole_long c.args.bytes.now c.in_ok-head.head c.image_bytes-length.result c.in_ok-head.ensures.head c.image_bytes-length.ensures c.if-length-bytes.true;
  file = tt;
  sized = tt;
}

pub returns-in_err-image : goal.returns-in_err-image
returns-in_err-image c =
    let p = err_from_is_err_and c.from_residual-in_err-image.result c.from_residual-in_err-image.ensures.1 in
    record {
      image = rw (p.1, p.2) (whole_is_ok c.args.bytes.now c.in_ok-head.head c.image_bytes-length.result c.in_ok-head.ensures.head c.image_bytes-length.ensures c.if-bytes-length.false c.if-length-bytes.false);
      file = rw p.1 tt;
      sized = rw p.1 tt;
    }

pub returns : goal.returns
returns c =
    let found = image_is c.args.bytes.now c.in_ok-head.head c.in_ok-image.image c.image_bytes-length.result c.in_ok-head.ensures.head c.image_bytes-length.ensures c.if-bytes-length.false c.if-length-bytes.false c.in_ok-image.ensures in
    record {
      image = found;
      file = (image_written c.args.bytes.now c.in_ok-image.image (λ i. omega (arith, c.type_inv.bytes i)) found).bytes_are;
      sized = image_sized c.args.bytes.now c.in_ok-image.image (λ i. omega (arith, c.type_inv.bytes i)) found;
    }
