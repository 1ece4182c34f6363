use Rattle.std.proofs.Common.{◌≡◌, ℕ, List, [], sym, ap, subst, ◌∙◌, arith}
use Rattle.std.specs.Prelude.{Err}
use Rattle.bz_image.specs.Fetches.{IsFilled}
use Rattle.bz_image.specs.Form.{file_of_image}
use Rattle.bz_image.specs.Reads.{head_of, image_of, Reads}
use Rattle.bz_image.specs.declared.fault.ImageFault.{ImageFault}
use Rattle.bz_image.specs.declared.fetch.FetchFault.{FetchFault}
use Rattle.bz_image.specs.declared.fetch.FetchFault.TheVariants.{Image as NoImage}
use Rattle.bz_image.proofs.FetchLemmas.{all_given, bad_head, bad_rest}
use Rattle.bz_image.proofs.fetch.fetch_image.Goals as goal

pub returns-in-Err : goal.returns-in-Err
returns-in-Err g c =
    let e = c.in-Err.ensures in
    record {
      image = tt;
      sized = tt;
      fault = λ f is known.
          let same : c.in-Err.fault ≡ NoImage f = cc in
          absurd (known (e.memory f (ap (λ (y : FetchFault). Err y) same)));
      failed = λ is. e.failed (let same : c.in-Err.fault ≡ _ = cc in ap (λ (y : FetchFault). Err y) same);
      later = c.fill.ensures.later;
    }

pub returns-in-Err-read_head : goal.returns-in-Err-read_head
returns-in-Err-read_head g c =
    let read : Err c.in-Err-read_head.fault ≡ head_of c.fill.new.bytes.items = rw c.deref.ensures.value at c.in-Err-read_head.ensures.head in
    let first : IsFilled (g.S.Source.left c.args.source.now) (g.S.Source.left c.fill.new.source) [] c.fill.new.bytes.items 20 = rw c.new-bytes.ensures.items at c.in-Ok.ensures.filled in
    record {
      image = tt;
      sized = tt;
      fault = λ f is known.
          let same : c.in-Err-read_head.fault ≡ f = cc in
          bad_head _ _ c.fill.new.bytes.items f first (sym read ∙ ap (λ (y : ImageFault). Err y) same);
      failed = λ is. absurd (cc);
      later = c.fill.ensures.later;
    }

pub returns-in-Err-fill : goal.returns-in-Err-fill
returns-in-Err-fill g c =
    let e = c.in-Err-fill.ensures in
    record {
      image = tt;
      sized = tt;
      fault = λ f is known.
          let same : c.in-Err-fill.fault ≡ NoImage f = cc in
          absurd (known (e.memory f (ap (λ (y : FetchFault). Err y) same)));
      failed = λ is.
          let rose = e.failed (let same : c.in-Err-fill.fault ≡ _ = cc in ap (λ (y : FetchFault). Err y) same) in
          omega (arith, c.fill.ensures.later, rose);
      later = omega (arith, c.fill.ensures.later, c.fill-2.ensures.later);
    }

pub returns-in-Ok-read_image : goal.returns-in-Ok-read_image
returns-in-Ok-read_image g c =
    let first : IsFilled (g.S.Source.left c.args.source.now) (g.S.Source.left c.fill.new.source) [] c.fill.new.bytes.items 20 = rw c.new-bytes.ensures.items at c.in-Ok.ensures.filled in
    let e = c.in-Ok-read_image.ensures in
    let is : c.fill-2.new.bytes.items ≡ file_of_image c.in-Ok-read_image.image = rw c.deref-2.ensures.value at e.file in
    record {
      image = all_given _ _ _ c.fill.new.bytes.items c.fill-2.new.bytes.items 20 _ c.in-Ok-read_image.image first c.in-Ok-fill.ensures.filled is;
      sized = e.sized;
      fault = λ f is known. absurd (cc);
      failed = λ is. absurd (cc);
      later = omega (arith, c.fill.ensures.later, c.fill-2.ensures.later);
    }

pub returns : goal.returns
returns g c =
    let first : IsFilled (g.S.Source.left c.args.source.now) (g.S.Source.left c.fill.new.source) [] c.fill.new.bytes.items 20 = rw c.new-bytes.ensures.items at c.in-Ok.ensures.filled in
    record {
      image = tt;
      sized = tt;
      fault = λ fault is known.
          let same : c.in-Err-read_image.fault ≡ fault = cc in
          let told : Reads (image_of c.fill-2.new.bytes.items) (Err fault) = subst (λ (f : ImageFault). Reads (image_of c.fill-2.new.bytes.items) (Err f)) same
          (subst (λ (bytes : List ℕ). Reads (image_of bytes) (Err c.in-Err-read_image.fault)) c.deref-2.ensures.value c.in-Err-read_image.ensures.image) in
          bad_rest _ _ _ c.fill.new.bytes.items c.fill-2.new.bytes.items c.in-Ok-read_head.head c.image_bytes.result fault first c.in-Ok-fill.ensures.filled c.image_bytes.ensures (rw c.deref.ensures.value at c.in-Ok-read_head.ensures.head) told known;
      failed = λ is. absurd (cc);
      later = omega (arith, c.fill.ensures.later, c.fill-2.ensures.later);
    }
