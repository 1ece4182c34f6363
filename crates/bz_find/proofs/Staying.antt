-- What is known of a leaf while a key is looked up in it stays.
use Rattle.std.proofs.Common.{ℕ, ◌≤◌, Bool, true, false, List, arith, sym, ◌∙◌}
use Rattle.bz_layout.specs.declared.sizes.TheConstants.{NODE_WORDS}
use Rattle.bz_leaf.proofs.Staying.{known, reading, has-link}
use Rattle.bz_task.specs.Scene.{Past, Scene, Stage, Waiting, Took, Continues, IsLawful, HasFilled}
use Rattle.bz_task.specs.declared.path.Link.{Link}
use Rattle.bz_task.proofs.Proved.{key_views_stay}
use Rattle.bz_find.specs.Facts.{IsStill, Opened, Searched, Ended, Linked, IsFoundAt, find_learnt, find_facts}
use Rattle.bz_find.specs.Phases.{view_of}
use Rattle.bz_find.specs.declared.find.Find.{Find}
use Rattle.bz_find.specs.declared.phase.FindPhase.{FindPhase}
use Rattle.bz_find.specs.declared.phase.FindPhase.TheVariants.{Fresh, Status, Header, Searching, Again, Link as Of_link, Guard, Viewed, Changed}
use Rattle.bz_find.specs.declared.search.Search.{Search}

module _ (p q : Past) (n : Continues p q) where
  -- a leaf that is still as it was then was so a moment ago
  earlier : (link : Link) (ws : List ℕ) (from : ℕ) → from ≤ p.now → IsStill q link ws from → IsStill p link ws from
  earlier link ws from l s = record {
    same = λ m a b. rw (← n.config, ← n.at from l, ← n.at m b) (s.same m a (omega (arith, b, n.now)));
    low = s.low;
    high = s.high;
    whole = s.whole;
  }

  abbrev opened : (key : List ℕ) (link : Link) (st : ℕ) → Opened key link st p → Opened key link st q
  opened key link st o = record { ws = o.ws; reading = reading p q n key link o.ws NODE_WORDS o.reading; status = o.status }

  searched : (key : List ℕ) (link : Link) (st : ℕ) (t : Search) → Searched key link st t p → Searched key link st t q
  searched key link st t o = record { opened = opened key link st o.opened; same = o.same; knows = λ s. o.knows (earlier link o.opened.ws o.opened.reading.read_at o.opened.reading.until s) }

  ended : (key : List ℕ) (link : Link) (st : ℕ) (t : Search) (frozen : Bool) → Ended key link st t frozen p → Ended key link st t frozen q
  ended key link st t frozen o = record { opened = opened key link st o.opened; same = o.same; found = λ s. o.found (earlier link o.opened.ws o.opened.reading.read_at o.opened.reading.until s); is = o.is }

  linked : (key : List ℕ) (link : Link) (st : ℕ) (t : Search) (at : ℕ) → Linked key link st t at p → Linked key link st t at q
  linked key link st t at o = record {
    ws = o.ws;
    led = has-link p q n key link o.ws at o.led;
    status = o.status;
    same = o.same;
    found = λ s. o.found (earlier link o.ws o.led.leaf.all.read_at o.led.leaf.all.until s);
  }

  found-at : (key : List ℕ) (t : Find) (at : ℕ) → IsFoundAt key t at p → IsFoundAt key t at q
  found-at key t at o = record { view = key_views_stay key (view_of t at) p q o.view n; reckoned = rw (n.config, n.at at o.view.now) o.reckoned }

  learnt : (t : Find) (phase : FindPhase) → find_learnt t phase p → find_learnt t phase q
  learnt t Fresh f = known p q n t.key t.link f
  learnt t Status f = known p q n t.key t.link f
  learnt t Header f = opened t.key t.link t.status f
  learnt t Searching f = searched t.key t.link t.status t.search f
  learnt t Again f = ended t.key t.link t.status t.search false f
  learnt t Of_link f = ended t.key t.link t.status t.search true f
  learnt t (Guard at) f = linked t.key t.link t.status t.search at f
  learnt t (Viewed at) f = found-at t.key t at f
  learnt t Changed f = tt

both : (t : Find) (phase : FindPhase) (s after : Scene) → IsLawful s after → HasFilled s × find_learnt t phase s.past → HasFilled after × find_learnt t phase after.past
both t phase s after step f = (λ k w. step.filled k ∙ f.0 k (sym (step.took k) ∙ w), learnt s.past after.past step.continues t phase f.1)

pub stable : (t : Find) (phase : FindPhase) (stage : Stage) (s after : Scene) → find_facts t phase stage s → IsLawful s after → find_facts t phase stage after
stable t phase Took s after f step = f
stable t Fresh Waiting s after f step = known s.past after.past step.continues t.key t.link f
stable t Status Waiting s after f step = both t Status s after step f
stable t Header Waiting s after f step = both t Header s after step f
stable t Searching Waiting s after f step = both t Searching s after step f
stable t Again Waiting s after f step = both t Again s after step f
stable t Of_link Waiting s after f step = both t Of_link s after step f
stable t (Guard at) Waiting s after f step = both t (Guard at) s after step f
stable t (Viewed at) Waiting s after f step = both t (Viewed at) s after step f
stable t Changed Waiting s after f step = both t Changed s after step f
