-- A node whose status gets its next stamp, and of which one more word, behind the metadata, is changed: the other fields of the
-- status stay, and so does all that is read of it.
use Rattle.std.proofs.Common.{◌≡◌, ◌≢◌, ℕ, ◌+◌, ◌^◌, ◌<◌, ◌≤◌, false, Bool, arith, refl, sym, ap, ◌∙◌}
use Rattle.std.proofs.lemmas.Bool.{true≢false}
use Rattle.bz_layout.specs.declared.sizes.TheConstants.{STATUS_AT, META_AT}
use Rattle.bz_slotted.specs.Page.{page}
use Rattle.bz_slotted.specs.Records.{pointer_at}
use Rattle.bz_word.specs.Statements.{IsCodec}
use Rattle.bz_word.specs.Statuses.{status_word, status, IsStatus, IsStatusWord}
use Rattle.bz_word.specs.declared.status.Status.{Status}
use Rattle.bz_task.specs.Steps.{Moves, next_stamp}
use Rattle.bz_renew.specs.Renewals.{restamped}
use Rattle.bz_renew.proofs.Restamping.{stamped, restamped-reads}

-- the words of the node before and after
pub record IsTurned (st place to : ℕ) (n m : ℕ → ℕ) : Type 0 where
  pub was : n STATUS_AT ≡ st
  pub status : m STATUS_AT ≡ restamped st
  pub link : m place ≡ to + 1
  pub others : (i : ℕ) → i ≢ STATUS_AT → i ≢ place → m i ≡ n i

module _ (codec : IsCodec Status IsStatus IsStatusWord status_word status) (st place to : ℕ) (n m : ℕ → ℕ) (plain : st < 2 ^ 61) (t : IsTurned st place to n m) where
  field-stays : (A : Type 0) (f : Status → A) → f (stamped st) ≡ f (status st) → f (status (m STATUS_AT)) ≡ f (status (n STATUS_AT))
  field-stays A f e = ap (λ z. f (status z)) t.status ∙ (ap f (restamped-reads codec st plain) ∙ (e ∙ ap (λ z. f (status z)) (sym t.was)))

  pub count-stays : (page m).count ≡ (page n).count
  count-stays = field-stays ℕ (λ z. z.count) refl

  pub block-stays : (page m).block ≡ (page n).block
  block-stays = field-stays ℕ (λ z. z.block) refl

  pub dead-stays : (page m).dead ≡ (page n).dead
  dead-stays = field-stays ℕ (λ z. z.dead) refl

  pub frozen-stays : (page m).frozen ≡ (page n).frozen
  frozen-stays = field-stays Bool (λ z. z.frozen) refl

  pub stamp-grows : (page m).stamp ≡ next_stamp (page n).stamp
  stamp-grows = ap (λ z. (status z).stamp) t.status ∙ (ap (λ z. z.stamp) (restamped-reads codec st plain) ∙ ap (λ z. next_stamp (status z).stamp) (sym t.was))

  -- so it is changed as nodes are
  pub turned-moves : (child : ℕ) → (status st).frozen ≡ false → child < (page n).count → place ≡ pointer_at (page n) child → META_AT + (page n).count ≤ place → Moves n m
  turned-moves child thawed counted is far = record {
    thawed = was;
    stamp = stamp-grows;
    front = λ i ne l. t.others i ne (λ e. omega (arith, e, l, far));
    freeze = λ f. absurd (true≢false (sym f ∙ (frozen-stays ∙ was)));
    inner = λ l. record {
      count = count-stays;
      block = block-stays;
      front = λ i ne l. t.others i ne (λ e. omega (arith, e, l, far));
      words = λ i l free. t.others i (λ e. omega (arith, e, l)) (λ e. free child counted (e ∙ is));
    };
    count = omega (arith, count-stays);
    block = omega (arith, block-stays);
    spare = λ e l. omega (arith, count-stays, block-stays, l);
  }
    where
      was : (page n).frozen ≡ false
      was = ap (λ z. (status z).frozen) t.was ∙ thawed
