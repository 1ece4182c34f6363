-- What tasks have learnt of past moments stays.
use Rattle.std.proofs.Common.{◌≡◌, ℕ, ◌≤◌, ◌&&◌, ◌||◌, Bool, true, false, List, arith, refl, sym, ◌∙◌, inl, inr}
use Rattle.std.specs.Prelude.{not}
use Rattle.bz_layout.specs.Slots.{FreeSlots}
use Rattle.bz_task.specs.Laws.{PathsStay, ViewsStay, KeyViewsStay, NothingIsGained}
use Rattle.bz_task.specs.Outcomes.{IsUnderNode, IsGuarded, IsLink, EndsAtLeaf}
use Rattle.bz_task.specs.OwnActs.{is_gained, gained}
use Rattle.bz_task.specs.Scene.{Past, Scene, IsMine, Continues}
use Rattle.bz_task.specs.declared.path.Link.{Link}

module _ (p q : Past) (n : Continues p q) where
  later : (m : ℕ) → m ≤ p.now → m ≤ q.now
  later m h = omega (arith, h, n.now)

  begun : (m : ℕ) → p.since ≤ m → q.since ≤ m
  begun m h = omega (arith, h, n.since)

  at-same : (m : ℕ) → m ≤ p.now → p.at m ≡ q.at m
  at-same m h = sym (n.at m h)

  under-stays : (link : Link) (m : ℕ) → m ≤ p.now → IsUnderNode p link m → IsUnderNode q link m
  under-stays link m h u = record {
    parent = u.parent;
    place = u.place;
    reached = rw (n.at m h) u.reached;
    within = u.within;
    child = rw (n.config, n.at m h) u.child;
    pointer = rw n.config u.pointer;
    guard = rw n.config u.guard;
  }

  guarded-stays : (link : Link) → IsGuarded p link → IsGuarded q link
  guarded-stays link g =
      let h : g.guarded ≤ p.now = omega (arith, g.order, g.now) in record {
        guarded = g.guarded;
        read = g.read;
        since = begun g.guarded g.since;
        order = g.order;
        now = later g.read g.now;
        under = elim g.under [ inl r ↦ inl r | inr u ↦ inr (under-stays link g.guarded h u) ];
        status = rw (n.at g.guarded h) g.status;
        slot = rw (n.at g.read g.now) g.slot;
      }

  link-stays : (key : List ℕ) (link : Link) → IsLink key p link → IsLink key q link
  link-stays key link l = record {
    was = l.was;
    since = begun l.was l.since;
    now = later l.was l.now;
    inside = rw (n.config, n.at l.was l.now) l.inside;
    slot = rw n.config l.slot;
    range = rw (n.config, n.at l.was l.now) l.range;
    led = rw (n.at l.was l.now) l.led;
    guarded = guarded-stays link l.guarded;
  }

  leaf-stays : (link : Link) → EndsAtLeaf p link → EndsAtLeaf q link
  leaf-stays link l = record {
    was = l.was;
    since = begun l.was l.since;
    now = later l.was l.now;
    reached = rw (n.at l.was l.now) l.reached;
    leaf = rw (n.config, n.at l.was l.now) l.leaf;
  }

pub paths-stay : PathsStay
paths-stay key path p q l n = record {
  some = l.some;
  few = l.few;
  links = λ i link h e. link-stays p q n key link (l.links i link h e);
  first = l.first;
  below = λ i link next h e f. rw n.config (l.below i link next h e f);
  leaf = λ i link h e. leaf-stays p q n link (l.leaf i link h e);
}

pub views-stay : ViewsStay
views-stay key view p q v n = record {
  since = begun p q n view.at v.since;
  now = later p q n view.at v.now;
  loads = n.loads view.at v.now ∙ v.loads;
  leaf = rw (n.config, n.at view.at v.now) v.leaf;
  slot = rw n.config v.slot;
  status = rw (n.config, n.at view.at v.now) v.status;
  plain = v.plain;
  words = rw (n.config, n.at view.at v.now) v.words;
  whole = rw (n.config, n.at view.at v.now) v.whole;
}

pub key-views-stay : KeyViewsStay
key-views-stay key view p q v n = record {
  since = begun p q n view.at v.since;
  now = later p q n view.at v.now;
  loads = n.loads view.at v.now ∙ v.loads;
  leaf = rw (n.config, n.at view.at v.now) v.leaf;
  slot = rw n.config v.slot;
  status = rw (n.config, n.at view.at v.now) v.status;
  plain = v.plain;
  says = rw (n.config, n.at view.at v.now) v.says;
  shows = rw (n.config, n.at view.at v.now) v.shows;
}

never : (b : Bool) → (b && not b) ≡ false
never true = refl
never false = refl

none-gained : (free : FreeSlots) (k : ℕ) → is_gained free free k ≡ false
none-gained free k = never _

or-false : (a b : Bool) → b ≡ false → a || b ≡ true → a ≡ true
or-false true b e h = refl
or-false false b e h = absurd (cc)

pub nothing-gained : NothingIsGained
nothing-gained s free h k t = h k (or-false (s.took k) (is_gained free free k) (none-gained free k) t)

-- what is one's own stays so where slots are taken
pub gained-mine : (s : Scene) (old new : FreeSlots) (a : ℕ) → IsMine s a → IsMine (gained s old new) a
gained-mine s old new a m = record {
  own = elim m.own [
    | inl o ↦ inl (record { slot = o.slot; place = o.place; address = o.address; within = o.within; took = rw o.took refl; unreached = o.unreached })
    | inr r ↦ inr r
  ];
  hidden = m.hidden;
}
