-- What is known of a leaf while it is read stays.
use Rattle.std.proofs.Common.{◌≡◌, ℕ, ◌+◌, ◌<◌, ◌≤◌, true, false, List, arith, sym, subst, ◌∙◌, inl, inr}
use Rattle.std.specs.Prelude.{Bool, slice_index}
use Rattle.bz_layout.specs.declared.config.Config.{Config}
use Rattle.bz_layout.specs.declared.sizes.TheConstants.{NODE_WORDS, STATUS_AT}
use Rattle.bz_tree.specs.Order.{is_within}
use Rattle.bz_task.specs.Instant.{Instant, words, page_at, form_at, is_inside}
use Rattle.bz_task.specs.Outcomes.{IsUnderNode}
use Rattle.bz_task.specs.Requests.{IsPointerPlace}
use Rattle.bz_task.specs.Scene.{Past, Scene, Stage, Waiting, Took, Continues, IsLawful, HasFilled}
use Rattle.bz_task.specs.declared.path.Link.{Link}
use Rattle.bz_task.proofs.Proved.{views_stay}
use Rattle.bz_leaf.specs.Facts.{IsKnownLeaf, WasWord, Reading, ReadsOn, HasRead, HasLink, leaf_learnt, leaf_facts}
use Rattle.bz_leaf.specs.declared.phase.LeafPhase.{LeafPhase}
use Rattle.bz_leaf.specs.declared.phase.LeafPhase.TheVariants.{Fresh, Status, Word, Again, Link as Of_link, Guard, Viewed, Changed}

module _ (p q : Past) (n : Continues p q) where
  -- what held of the sizes and the memory at a past moment
  pub moved : (P : Config → Instant → Type 0) (m : ℕ) → m ≤ p.now → P p.config (p.at m) → P q.config (q.at m)
  moved P m h f = subst (λ c. P c (q.at m)) (sym n.config) (subst (λ x. P p.config x) (sym (n.at m h)) f)

  pub under : (link : Link) (m : ℕ) → m ≤ p.now → IsUnderNode p link m → IsUnderNode q link m
  under link m h u = record {
    parent = u.parent;
    place = u.place;
    reached = moved (λ c x. x.reached u.parent ≡ true) m h u.reached;
    within = u.within;
    child = moved (λ c x. IsPointerPlace (page_at c x u.parent) u.place) m h u.child;
    pointer = rw n.config u.pointer;
    guard = rw n.config u.guard;
  }

  abbrev pub known : (key : List ℕ) (link : Link) → IsKnownLeaf key link p → IsKnownLeaf key link q
  known key link k = record {
    moment = k.moment;
    since = omega (arith, k.since, n.since);
    now = omega (arith, k.now, n.now);
    slot = subst (λ c. link.slot < c.nodes) (sym n.config) k.slot;
    inside = moved (λ c x. is_inside c x link.slot ≡ true) k.moment k.now k.inside;
    leaf = moved (λ c x. (form_at c x).level link.slot ≡ 0) k.moment k.now k.leaf;
    range = moved (λ c x. is_within key ((form_at c x).low link.slot) ((form_at c x).high link.slot) ≡ true) k.moment k.now k.range;
    led = moved (λ c x. x.value link.link ≡ link.slot + 1) k.moment k.now k.led;
    hung = k.hung;
    hung_since = omega (arith, k.hung_since, n.since);
    hung_now = omega (arith, k.hung_now, n.now);
    under = elim k.under [ inl r ↦ inl r | inr u ↦ inr (under link k.hung k.hung_now u) ];
  }

  pub word : (k i v g : ℕ) → WasWord k i v g p → WasWord k i v g q
  word k i v g w = record { moment = w.moment; order = w.order; now = omega (arith, w.now, n.now); word = moved (λ c x. words c x k i ≡ v) w.moment w.now w.word }

  abbrev pub reading : (key : List ℕ) (link : Link) (ws : List ℕ) (place : ℕ) → Reading key link ws place p → Reading key link ws place q
  reading key link ws place r = record {
    known = known key link r.known;
    read_at = r.read_at;
    order = r.order;
    hung_order = r.hung_order;
    until = omega (arith, r.until, n.now);
    was = moved (λ c x. words c x link.slot STATUS_AT ≡ slice_index ws 0) r.read_at r.until r.was;
    plain = r.plain;
    read = λ i a b u. word link.slot i (slice_index ws i) r.read_at (r.read i a b u);
    rest = r.rest;
  }

  on : (key : List ℕ) (link : Link) (ws : List ℕ) (place : ℕ) → ReadsOn key link ws place p → ReadsOn key link ws place q
  on key link ws place r = record { so_far = reading key link ws place r.so_far; some = r.some; within = r.within; used = r.used }

  abbrev pub has-read : (key : List ℕ) (link : Link) (ws : List ℕ) (frozen : Bool) → HasRead key link ws frozen p → HasRead key link ws frozen q
  has-read key link ws frozen r = record { all = reading key link ws NODE_WORDS r.all; is = r.is }

  abbrev pub has-link : (key : List ℕ) (link : Link) (ws : List ℕ) (at : ℕ) → HasLink key link ws at p → HasLink key link ws at q
  has-link key link ws at h = record {
    leaf = has-read key link ws true h.leaf;
    order = h.order;
    until = omega (arith, h.until, n.now);
    loads = n.loads at h.until ∙ h.loads;
    led = moved (λ c x. x.value link.link ≡ link.slot + 1) at h.until h.led;
  }

  learnt : (key : List ℕ) (link : Link) (ws : List ℕ) (phase : LeafPhase) → leaf_learnt key link ws phase p → leaf_learnt key link ws phase q
  learnt key link ws Fresh f = (f.0, known key link f.1)
  learnt key link ws Status f = (f.0, known key link f.1)
  learnt key link ws (Word i) f = on key link ws i f
  learnt key link ws Again f = has-read key link ws false f
  learnt key link ws Of_link f = has-read key link ws true f
  learnt key link ws (Guard at) f = has-link key link ws at f
  learnt key link ws (Viewed at) f = λ view m. views_stay key view p q (f view m) n
  learnt key link ws Changed f = tt

both : (key : List ℕ) (link : Link) (ws : List ℕ) (phase : LeafPhase) (s after : Scene) → IsLawful s after → HasFilled s × leaf_learnt key link ws phase s.past → HasFilled after × leaf_learnt key link ws phase after.past
both key link ws phase s after step f = (λ k t. step.filled k ∙ f.0 k (sym (step.took k) ∙ t), learnt s.past after.past step.continues key link ws phase f.1)

pub stable : (key : List ℕ) (link : Link) (ws : List ℕ) (phase : LeafPhase) (stage : Stage) (s after : Scene) → leaf_facts key link ws phase stage s → IsLawful s after → leaf_facts key link ws phase stage after
stable key link ws phase Took s after f step = f
stable key link ws Fresh Waiting s after f step = (f.0, known s.past after.past step.continues key link f.1)
stable key link ws Status Waiting s after f step = both key link ws Status s after step f
stable key link ws (Word i) Waiting s after f step = both key link ws (Word i) s after step f
stable key link ws Again Waiting s after f step = both key link ws Again s after step f
stable key link ws Of_link Waiting s after f step = both key link ws Of_link s after step f
stable key link ws (Guard at) Waiting s after f step = both key link ws (Guard at) s after step f
stable key link ws (Viewed at) Waiting s after f step = both key link ws (Viewed at) s after step f
stable key link ws Changed Waiting s after f step = both key link ws Changed s after step f
