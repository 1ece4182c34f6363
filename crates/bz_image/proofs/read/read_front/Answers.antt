use Rattle.std.proofs.Common.{arith}
use Rattle.std.proofs.lemmas.Result.{err_from_is_err_and}
use Rattle.bz_image.proofs.ImageLemmas.{front_is, front_sized}
use Rattle.bz_image.proofs.Refusals.{front_refused, front_short, front_is_ok}
use Rattle.bz_image.proofs.read.read_front.Goals as goal

pub returns-in_err-head : goal.returns-in_err-head
returns-in_err-head c =
    let p = err_from_is_err_and c.from_residual.result c.from_residual.ensures.1 in
    record {
      front = rw (p.1, p.2) (front_refused c.args.bytes.now _ c.in_err-head.ensures.head);
      sized = rw p.1 tt;
    }

pub returns-then-bytes-length : goal.returns-then-bytes-length
returns-then-bytes-length c = record {
  front = front_short c.args.bytes.now c.in_ok-head.head c.image_bytes-length.result c.in_ok-head.ensures.head c.image_bytes-length.ensures c.if-bytes-length.true;
  sized = tt;
}

pub returns-in_err-image : goal.returns-in_err-image
returns-in_err-image c =
    let p = err_from_is_err_and c.from_residual-in_err-image.result c.from_residual-in_err-image.ensures.1 in
    record {
      front = rw (p.1, p.2) (front_is_ok c.args.bytes.now c.in_ok-head.head c.image_bytes-length.result c.in_ok-head.ensures.head c.image_bytes-length.ensures c.if-bytes-length.false);
      sized = rw p.1 tt;
    }

pub returns : goal.returns
returns c =
    let found = front_is c.args.bytes.now c.in_ok-head.head c.in_ok-image.image c.image_bytes-length.result c.in_ok-head.ensures.head c.image_bytes-length.ensures c.if-bytes-length.false c.in_ok-image.ensures in
    record {
      front = found;
      sized = front_sized c.args.bytes.now c.in_ok-image.image (λ i. omega (arith, c.type_inv.bytes i)) found.0;
    }
