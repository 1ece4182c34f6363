-- A removal is lawful for everybody and deletes the key.
use Rattle.std.proofs.Common.{◌≡◌, ℕ, ◌+◌, true, false, List, arith, refl, sym, ap, ◌∙◌}
use Rattle.bz_slotted.specs.FromNode.Reading.{extent_words}
use Rattle.bz_slotted.specs.Page.{meta_of, visible, held, used, extent_of, page}
use Rattle.bz_slotted.specs.Records.{shown}
use Rattle.bz_slotted.specs.Whole.{Whole, IsLeafRecord}
use Rattle.bz_slotted.proofs.Proved.{leaf_rules_are_facts}
use Rattle.bz_word.specs.Metas.{meta_word}
use Rattle.bz_word.specs.Statuses.{status}
use Rattle.bz_word.specs.declared.meta.Extent.{Extent}
use Rattle.bz_word.specs.declared.meta.Meta.{Meta}
use Rattle.bz_word.specs.declared.meta.Meta.TheVariants.{Visible, Deleted}
use Rattle.bz_content.specs.Image.{node}
use Rattle.bz_task.specs.Instant.{durable, form_at}
use Rattle.bz_task.specs.Scene.{Scene, IsScene, here}
use Rattle.bz_task.specs.Steps.{next_stamp}
use Rattle.bz_task.specs.Swaps.{Stand}
use Rattle.bz_record.specs.Laws.{SameLeaf, IsRewriteOf, IsRewrite}
use Rattle.bz_record.specs.Replacing.{removal, WasRecord}
use Rattle.bz_record.specs.ReplacingLaws.{deletes, RemovalsRewrite, RemovalsAreGood}
use Rattle.bz_record.specs.Swaps.{entries_of}
use Rattle.bz_record.proofs.Coding.{visible-shown, visible-extent}
use Rattle.bz_record.proofs.Entries.{same-now, durable-status-now}
use Rattle.bz_record.proofs.Found.{counted-plain, counted-reads, visible-reads, deleted-reads, now-says, now-key}
use Rattle.bz_record.proofs.Rewriting.{rewriting}

-- what is said of a deleted record
deleted-used : (key total : ℕ) → used (Deleted key total) ≡ true
unfolding used
deleted-used key total = refl

pub deleted-hidden : (key total : ℕ) → visible (Deleted key total) ≡ false
unfolding visible
deleted-hidden key total = refl

pub deleted-loose : (key total : ℕ) → held (Deleted key total) ≡ false
unfolding held
deleted-loose key total = refl

deleted-extent : (key total : ℕ) → extent_of (Deleted key total) ≡ record { offset = 0; key = key; total = total }
unfolding extent_of
deleted-extent key total = refl

-- the same lengths
same-lengths : (m k : Meta) → (extent_of k).key ≡ (extent_of m).key → (extent_of k).total ≡ (extent_of m).total → IsLeafRecord m → IsLeafRecord k
same-lengths m k a b l = record { some = omega (arith, l.some, a); short = omega (arith, l.short, a); more = omega (arith, l.more, a, b); payload = omega (arith, l.payload, a, b) }

module _ (s : Scene) (key payload : List ℕ) (k st place : ℕ) (e : Extent) (good : IsScene s) (w : WasRecord key payload k st place e s.past) (thawed : (status st).frozen ≡ false) (stand : Stand (entries_of s.past.config (removal k st place e)) (here s)) where
  now : SameLeaf s.past.config (s.past.at w.moment) (here s) k
  now = same-now s (removal k st place e) w.moment good w.leaf.leaf thawed stand

  whole : Whole (node s.past.config (here s).image k) (page (durable s.past.config (here s) k)) ((form_at s.past.config (here s)).low k) ((form_at s.past.config (here s)).high k)
  whole = (leaf_rules_are_facts s.past.config.nodes (node s.past.config (here s).image k) (durable s.past.config (here s) k) _ _).0 now.leaf.whole

  count-durable : (page (durable s.past.config (here s) k)).count ≡ (status st).count
  count-durable = ap (λ z. (status z).count) (durable-status-now s (removal k st place e) w.moment good w.leaf.leaf thawed stand)

  there : (page (durable s.past.config (here s) k)).meta place ≡ Visible e
  there = now-says s key payload k st place e good w now

  there-extent : extent_of ((page (durable s.past.config (here s) k)).meta place) ≡ e
  there-extent = ap extent_of there ∙ visible-extent e

  no : (A : Type 0) → visible (Deleted e.key e.total) ≡ true → A
  no A v = absurd (let h = deleted-hidden e.key e.total in cc)

  loose : (A : Type 0) → held (Deleted e.key e.total) ≡ true → A
  loose A v = absurd (let h = deleted-loose e.key e.total in cc)

  reads : status ((removal k st place e).new_status) ≡ record (status st) { dead = (status st).dead + extent_words e; stamp = next_stamp (status st).stamp }
  reads = counted-reads st ((status st).dead + extent_words e) w.leaf.leaf.plain (omega (arith, w.small, w.dead))

  rewrites : IsRewriteOf (node s.past.config (here s).image k) (durable s.past.config (here s) k) place (Deleted e.key e.total) (deletes key payload)
  rewrites = record {
    used = deleted-used e.key e.total;
    lengths = same-lengths ((page (durable s.past.config (here s) k)).meta place) (Deleted e.key e.total) (ap (λ z. z.key) (deleted-extent e.key e.total) ∙ ap (λ z. z.key) (sym there-extent)) (ap (λ z. z.total) (deleted-extent e.key e.total) ∙ ap (λ z. z.total) (sym there-extent)) (whole.lengths place (omega (arith, w.counted, count-durable)));
    in_block = λ h. loose _ h;
    apart = λ i l ne h u. loose _ h;
    key = λ v. no _ v;
    payload = λ v. no _ v;
    is_key = λ v. no _ v;
    is_new = λ v. no _ v;
    tail = λ v. no _ v;
    distinct = λ i l ne v u. no _ v;
    was_key = λ v. now-key s key payload k st place e good w now;
    gone = λ v. (ap visible there ∙ visible-shown e, refl);
  }

  rewrite-of : IsRewrite (removal k st place e) (Deleted e.key e.total) (deletes key payload) s
  rewrite-of = record {
    moment = w.moment;
    leaf = w.leaf;
    thawed = thawed;
    states = record {
      plain = counted-plain st ((status st).dead + extent_words e) w.leaf.leaf.plain (omega (arith, w.small, w.dead));
      thawed = ap (λ z. z.frozen) reads ∙ thawed;
      count = ap (λ z. z.count) reads;
      block = ap (λ z. z.block) reads;
      stamp = ap (λ z. z.stamp) reads;
    };
    dead = dead;
    counted = w.counted;
    says = deleted-reads e w.extent w.some;
    rewrites = rewrites;
    own = λ i v from to. no _ v;
  }
    where
      dead : (status ((removal k st place e).new_status)).dead + shown (Deleted e.key e.total) ≡ (status st).dead + shown (meta_of (meta_word (Visible e)))
      dead =
          let none : shown (Deleted e.key e.total) ≡ 0 = rw (deleted-hidden e.key e.total) refl in
          let all : shown (meta_of (meta_word (Visible e))) ≡ extent_words e = ap shown (visible-reads e w.extent) ∙ rw (visible-shown e) (ap extent_words (visible-extent e)) in
          omega (arith, none, all, ap (λ z. z.dead) reads)

pub removals-rewrite : RemovalsRewrite
removals-rewrite s key payload k st place e good w thawed stand = rewrite-of s key payload k st place e good w thawed stand

pub removing : RemovalsAreGood
removing s y key payload k st place e good w thawed stand swaps = rewriting s y (removal k st place e) (Deleted e.key e.total) (deletes key payload) good (rewrite-of s key payload k st place e good w thawed stand) stand swaps
