-- The words of a record are stored one by one, and become durable line by line.
use Rattle.std.proofs.Common.{◌≡◌, ℕ, ◌+◌, ◌-◌, ◌*◌, ◌<◌, ◌≤◌, arith, refl, sym, subst, ◌∙◌, inl, inr}
use Rattle.std.specs.Prelude.{slice_index}
use Rattle.std.proofs.lemmas.Bool.{cases_lt, cases_eq}
use Rattle.bz_layout.specs.Slots.{FreeSlots}
use Rattle.bz_layout.specs.declared.config.Config.{Config}
use Rattle.bz_layout.specs.declared.sizes.TheConstants.{NODE_WORDS}
use Rattle.bz_layout.proofs.Laws.{addresses_fit}
use Rattle.bz_task.specs.OwnActs.{Stores, Flushes, gained}
use Rattle.bz_task.specs.Requests.{IsReadable}
use Rattle.bz_task.specs.Scene.{Scene, IsMine, IsFlushed, IsScene, IsLawful, here}
use Rattle.bz_record.specs.Records.{words_in, size_of, address_of, Fits}
use Rattle.bz_record.specs.Writing.{line_in, IsWritingRecord, HasWritten, RecordsAreWritten}
use Rattle.bz_record.specs.declared.new_record.NewRecord.{NewRecord}
use Rattle.bz_task.proofs.Stays.{gained-mine}
use Rattle.bz_record.proofs.Reading.{word-plain}

-- the same facts where the sizes are said to be others
resized : (r : NewRecord) (words lines : ℕ) (c d : Config) (s : Scene) → d ≡ c → s.past.config ≡ d
    → ((i : ℕ) → i < size_of r → IsMine s (address_of c r i))
    → ((i : ℕ) → i < size_of r → i < words → (here s).value (address_of c r i) ≡ slice_index (words_in r) i)
    → ((i : ℕ) → i < size_of r → line_in c r i < line_in c r 0 + lines → IsFlushed s (address_of c r i))
    → IsWritingRecord r words lines s
resized r words lines c d s e q mine stored flushed =
    let p : s.past.config ≡ c = q ∙ e in record {
      mine = λ i l. subst (λ z. IsMine s (address_of z r i)) (sym p) (mine i l);
      stored = λ i l n. subst (λ z. (here s).value (address_of z r i) ≡ slice_index (words_in r) i) (sym p) (stored i l n);
      flushed = λ i l n. subst (λ z. IsFlushed s (address_of z r i)) (sym p) (flushed i l (subst (λ z. line_in z r i < line_in z r 0 + lines) p n));
    }

stays : (r : NewRecord) (words lines : ℕ) (s after : Scene) → IsWritingRecord r words lines s → IsLawful s after → IsWritingRecord r words lines after
stays r words lines s after w l =
    resized r words lines s.past.config after.past.config after l.continues.config refl
    (λ i h. (l.keeps (address_of s.past.config r i) (w.mine i h)).mine)
    (λ i h n. (l.keeps (address_of s.past.config r i) (w.mine i h)).value ∙ w.stored i h n)
    (λ i h n. (l.keeps (address_of s.past.config r i) (w.mine i h)).flushed (w.flushed i h n))

stores : (r : NewRecord) (i : ℕ) (s after : Scene) → i < size_of r → IsWritingRecord r i 0 s → Stores (address_of s.past.config r i) (slice_index (words_in r) i) s after → IsWritingRecord r (i + 1) 0 after
stores r i s after l w t =
    resized r (i + 1) 0 s.past.config after.past.config after t.continues.config refl
    (λ j h. t.mine (address_of s.past.config r j) (w.mine j h))
    (λ j h n. elim (cases_eq j i) [
      | inl e ↦ subst (λ z. (here after).value (address_of s.past.config r z) ≡ slice_index (words_in r) z) (sym e) t.value
      | inr ne ↦ t.others (address_of s.past.config r j) (λ e. ne (omega (arith, e))) ∙ w.stored j h (omega (arith, n, ne))
    ])
    (λ j h n. absurd (omega (arith, n)))

flushes : (r : NewRecord) (line : ℕ) (s after : Scene) → IsWritingRecord r (size_of r) line s → Flushes (line_in s.past.config r 0 + line) s after → IsWritingRecord r (size_of r) (line + 1) after
flushes r line s after w t =
    resized r (size_of r) (line + 1) s.past.config after.past.config after t.continues.config refl
    (λ j h. t.mine (address_of s.past.config r j) (w.mine j h))
    (λ j h n. t.value (address_of s.past.config r j) ∙ w.stored j h n)
    (λ j h n. elim (cases_lt (line_in s.past.config r j) (line_in s.past.config r 0 + line)) [
      | inl before ↦ t.stays (address_of s.past.config r j) (w.mine j h) (w.flushed j h before)
      | inr now ↦ t.flushed (address_of s.past.config r j) (omega (arith, now, n)) (w.mine j h)
    ])

written-stays : (r : NewRecord) (s after : Scene) → HasWritten r s → IsLawful s after → HasWritten r after
written-stays r s after w l =
    let e : after.past.config ≡ s.past.config = l.continues.config in record {
      mine = λ i h. subst (λ z. IsMine after (address_of z r i)) (sym e) (l.keeps (address_of s.past.config r i) (w.mine i h)).mine;
      stored = λ i h. subst (λ z. (here after).value (address_of z r i) ≡ slice_index (words_in r) i) (sym e) ((l.keeps (address_of s.past.config r i) (w.mine i h)).value ∙ w.stored i h);
      flushed = λ i h. subst (λ z. IsFlushed after (address_of z r i)) (sym e) ((l.keeps (address_of s.past.config r i) (w.mine i h)).flushed (w.flushed i h));
    }

no-slot : (r : NewRecord) (words lines : ℕ) (s : Scene) (free : FreeSlots) → IsWritingRecord r words lines s → IsWritingRecord r words lines (gained s free free)
no-slot r words lines s free w = record { mine = λ i l. gained-mine s free free (address_of s.past.config r i) (w.mine i l); stored = w.stored; flushed = w.flushed }

written-no-slot : (r : NewRecord) (s : Scene) (free : FreeSlots) → HasWritten r s → HasWritten r (gained s free free)
written-no-slot r s free w = record { mine = λ i l. gained-mine s free free (address_of s.past.config r i) (w.mine i l); stored = w.stored; flushed = w.flushed }

may-flush : (r : NewRecord) (line : ℕ) (s : Scene) → IsScene s → Fits r → r.slot < s.past.config.nodes → line_in s.past.config r 0 + line ≤ line_in s.past.config r (size_of r - 1) → IsReadable s (8 * (line_in s.past.config r 0 + line))
may-flush r line s good f l h = record {
  outside = inr (omega (arith, f.room.fits));
  within = omega (arith, h, f.some, (addresses_fit s.past.config good.config).node_words r.slot (NODE_WORDS - 1) l (omega arith), f.room.fits);
}

pub written : RecordsAreWritten
written = record {
  stays = stays;
  written_stays = written-stays;
  no_slot = no-slot;
  written_no_slot = written-no-slot;
  stores = stores;
  flushes = flushes;
  may_store = λ r i words lines s f l w. record { mine = w.mine i l; value = word-plain r f i l };
  may_flush = may-flush;
}
