-- A node that a swap freezes: of its status the frozen bit and the stamp alone are others, and no other word is; so it is changed
-- as nodes are, and no more of it is read.
use Rattle.std.proofs.Common.{◌≡◌, ◌≢◌, ℕ, ◌+◌, ◌^◌, ◌<◌, true, false, List, arith, refl, sym, ap, ◌∙◌, inl, inr}
use Rattle.std.proofs.lemmas.Bool.{cases_lt}
use Rattle.bz_layout.specs.Addresses.{node_address}
use Rattle.bz_layout.specs.declared.sizes.TheConstants.{NODE_WORDS, STATUS_AT}
use Rattle.bz_slotted.specs.Page.{page}
use Rattle.bz_word.specs.Statements.{IsCodec}
use Rattle.bz_word.specs.Statuses.{status_word, status, IsStatus, IsStatusWord}
use Rattle.bz_word.specs.declared.status.Status.{Status}
use Rattle.bz_task.specs.Instant.{Instant, words, page_at}
use Rattle.bz_task.specs.Laws.{SlotWords, SwapsShowInSlots, SameRecordsShowTheSame}
use Rattle.bz_task.specs.Scene.{Scene, here}
use Rattle.bz_task.specs.Shown.{SameRecords}
use Rattle.bz_task.specs.Steps.{Moves, next_stamp, frozen_word}
use Rattle.bz_task.specs.Swaps.{SwapsTo, swapped}
use Rattle.bz_task.specs.declared.path.Link.{Link}
use Rattle.bz_task.proofs.FrozenWords.{frozen-reads}
use Rattle.bz_renew.specs.Freezings.{Freezing, renewal_with}
use Rattle.bz_renew.specs.LinkSwaps.{IsChanged}
use Rattle.bz_renew.proofs.Freezings.{IsFrozenBy}
use Rattle.bz_renew.proofs.Words.{node-at}

-- the words of the node before and after
pub record IsFrozenNow (st : ℕ) (n m : ℕ → ℕ) : Type 0 where
  pub was : n STATUS_AT ≡ st
  pub status : m STATUS_AT ≡ frozen_word st
  pub others : (i : ℕ) → i ≢ STATUS_AT → m i ≡ n i

abbrev frozen_with_stamp : ℕ → Status
frozen_with_stamp st = record (status st) { frozen = true; stamp = next_stamp (status st).stamp }

module _ (codec : IsCodec Status IsStatus IsStatusWord status_word status) (st : ℕ) (n m : ℕ → ℕ) (plain : st < 2 ^ 61) (t : IsFrozenNow st n m) where
  reads : status (m STATUS_AT) ≡ frozen_with_stamp st
  reads = ap status t.status ∙ frozen-reads st plain

  field-stays : (f : Status → ℕ) → f (frozen_with_stamp st) ≡ f (status st) → f (status (m STATUS_AT)) ≡ f (status (n STATUS_AT))
  field-stays f e = ap f reads ∙ (e ∙ ap (λ z. f (status z)) (sym t.was))

  pub records : SameRecords n m
  records = record {
    count = field-stays (λ z. z.count) refl;
    block = field-stays (λ z. z.block) refl;
    words = λ i ne h. t.others i ne;
  }

  pub now-frozen : (page m).frozen ≡ true
  now-frozen = ap (λ z. z.frozen) reads

  pub moves : (status st).frozen ≡ false → Moves n m
  moves thawed = record {
    thawed = ap (λ z. (status z).frozen) t.was ∙ thawed;
    stamp = ap (λ z. z.stamp) reads ∙ ap (λ z. next_stamp (status z).stamp) (sym t.was);
    front = λ i ne l. t.others i ne;
    freeze = λ f. records;
    inner = λ l. record {
      count = records.count;
      block = records.block;
      front = λ i ne h. t.others i ne;
      words = λ i h free. t.others i (λ e. omega (arith, e, h));
    };
    count = omega (arith, records.count);
    block = omega (arith, records.block);
    spare = λ e f. omega (arith, records.count, records.block, f);
  }

module _ (codec : IsCodec Status IsStatus IsStatusWord status_word status) (slots : SwapsShowInSlots) (shown : SameRecordsShowTheSame) (link : Link) (to : ℕ) (fs : List Freezing) (s : Scene) (y : Instant) (k : ℕ)
    (swaps : SwapsTo s.past.config (renewal_with s.past.config link to fs) (here s) y) (w : IsFrozenBy link to fs s k)
    (left : (f : ℕ → ℕ) (i : ℕ) → i < NODE_WORDS → i ≢ STATUS_AT → swapped (renewal_with s.past.config link to fs) f (node_address s.past.config k + i) ≡ f (node_address s.past.config k + i)) where
  words-of : SlotWords s.past.config (renewal_with s.past.config link to fs) (here s) y k
  words-of = slots s.past.config (renewal_with s.past.config link to fs) (here s) y k swaps

  frozen-read : IsFrozenNow w.word (words s.past.config (here s) k) (words s.past.config y k)
  frozen-read = record {
    was = node-at s.past.config (here s).value k STATUS_AT (omega arith) ∙ w.stands;
    status = (words-of.within STATUS_AT (omega arith)).value ∙ w.sets (here s).value;
    others = λ i n. elim (cases_lt i NODE_WORDS) [
      | inl h ↦ (words-of.within i h).value ∙ (left (here s).value i h n ∙ sym (words-of.within i h).before)
      | inr h ↦ words-of.past i h
    ];
  }

  pub frozen-after : (page_at s.past.config y k).frozen ≡ true
  frozen-after = now-frozen codec w.word _ _ w.freezable.plain frozen-read

  pub frozen-changed : IsChanged s y k
  frozen-changed = record {
    reached = w.freezable.reached;
    moved = moves codec w.word _ _ w.freezable.plain frozen-read w.freezable.thawed;
    shown = λ i h. (shown (words s.past.config (here s) k) (words s.past.config y k) (records codec w.word _ _ w.freezable.plain frozen-read) i).1 h;
  }
