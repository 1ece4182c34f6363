-- What the last look at the guard of the link to the parent leads to, and teaches.
use Rattle.std.proofs.Common.{◌≡◌, ◌≢◌, ℕ, ◌+◌, ◌<◌, ◌^◌, Bool, true, false, arith, refl, sym, subst, ◌∙◌, ◌≤◌, inr}
use Rattle.bz_layout.specs.Addresses.{node_address}
use Rattle.bz_layout.specs.Slots.{FreeSlots}
use Rattle.bz_layout.specs.declared.config.Config.{Config}
use Rattle.bz_layout.specs.declared.sizes.TheConstants.{STATUS_AT}
use Rattle.bz_word.specs.Statuses.{status}
use Rattle.bz_task.specs.OwnActs.{AreTakenFrom}
use Rattle.bz_task.specs.Requests.{Answers}
use Rattle.bz_task.specs.Scene.{Scene, Stage, Waiting, Took, IsScene, HasFilled}
use Rattle.bz_task.specs.declared.todo.Seen.{Seen}
use Rattle.bz_task.specs.declared.todo.Seen.TheVariants.{Read as Was, NoSwap as NoneLeft}
use Rattle.bz_renew.specs.Nodes.{HaveSlots}
use Rattle.bz_renew.specs.Renewals.{link_entry, guard_entry, IsTurnable, LinksMayBeTurned}
use Rattle.bz_renew.proofs.TwoEntries.{no-target}
use Rattle.bz_below.specs.Facts.{Below, below_nodes, IsSplittingBelow, IsSwapReady, below_differs, below_facts, below_left, below_steps, below_needs, IsReadyBelow}
use Rattle.bz_split.specs.Facts.{SPLIT_WORDS, SPLIT_LINES}
use Rattle.bz_below.specs.Guards.{with_guard, WasNamed, LinksStandOn}
use Rattle.bz_below.specs.declared.phase.BelowPhase.{BelowPhase}
use Rattle.bz_below.specs.declared.phase.BelowPhase.TheVariants.{Fresh, Named, Swap, Restart}
use Rattle.bz_below.proofs.Acting.{upper-slot}
use Rattle.bz_below.proofs.Ending.{EndsWell, goes-on}

-- the task with what was found
abbrev pub named-of : Below → ℕ → Below
named-of r v = record { upper = r.upper; lower = r.lower; slot = r.slot; image = r.image; read = r.read; sep = r.sep; guard = v }

waits : (r : Below) (stage : Stage) (s : Scene) → below_facts r Named stage s → HasFilled s × IsSplittingBelow r SPLIT_WORDS SPLIT_LINES s
waits r Waiting s f = f
waits r Took s f = absurd (f)

-- what is written is the same, whatever is named
written : (r : Below) (v : ℕ) (s : Scene) → IsSplittingBelow r SPLIT_WORDS SPLIT_LINES s → IsSplittingBelow (named-of r v) SPLIT_WORDS SPLIT_LINES s
written r v s f = record { planned = f.planned; looked = f.looked; link_apart = f.link_apart; guard_apart = f.guard_apart; over = f.over; plain = f.plain; writing = f.writing }

swap-ready : LinksMayBeTurned → (r : Below) (v : ℕ) (s : Scene) → IsScene s → v < 2 ^ 61 → IsSplittingBelow r SPLIT_WORDS SPLIT_LINES s → IsSwapReady s.past.config (named-of r v)
swap-ready turned r v s good plain f =
    let p = f.planned.parted in
    let t : IsTurnable r.upper s = turned s r.upper good p.links.upper_guard p.links.upper_thawed in
    let u : IsTurnable r.lower s = turned s r.lower good p.links.guard p.links.thawed in
    record {
      guard_plain = plain;
      lower_plain = u.plain;
      apart = t.apart;
      slot = upper-slot r.upper r.lower (r.image 1) (r.image 2) r.sep s good p;
      target = no-target (link_entry r.upper (r.slot 0)) (guard_entry (with_guard r.upper v)) (node_address s.past.config r.upper.slot + STATUS_AT) f.link_apart f.guard_apart;
    }

-- the guard as it is now
was-named : LinksStandOn → (r : Below) (v : ℕ) (s : Scene) → IsScene s → IsSplittingBelow r SPLIT_WORDS SPLIT_LINES s → Answers s r.upper.guard v → (status v).frozen ≡ false → WasNamed r.upper v (below_nodes r) s.past
was-named stand r v s good f a thawed = record {
  named = s.past.now;
  since = good.begun;
  now = omega arith;
  loads = a.loads;
  plain = a.plain;
  thawed = thawed;
  value = a.value;
  under = stand s r.upper good f.planned.parted.links.upper_guard;
  durable = λ n i h l. (f.writing.flushed n i h l (omega (arith, h, l))).image ∙ f.writing.stored_is n i h l (omega (arith, h, l));
}

-- what a phase after it must be
pub record IsNamedPhase (v : ℕ) (p : BelowPhase) : Type 0 where
  pub frozen : (status v).frozen ≡ true → p ≡ Restart
  pub thawed : (status v).frozen ≡ false → p ≡ Swap

-- what it leads to
pub record Names (r : Below) (c : Config) (v : ℕ) (seen : Seen) (p : BelowPhase) (free : FreeSlots) : Type 0 where
  pub begun : p ≢ Fresh
  pub ready : IsReadyBelow c (named-of r v) p
  pub nearer : below_left p + below_steps p ≤ below_left Named
  pub taken : AreTakenFrom 0 (below_needs p) free free
  pub ends : EndsWell r.lower seen Named p free

heard : (v : ℕ) (seen : Seen) → seen ≡ Was v → seen ≢ NoneLeft
heard v seen is e = let q = sym is ∙ e in absurd (cc)

restarts : (r : Below) (c : Config) (v : ℕ) (seen : Seen) (free : FreeSlots) → seen ≡ Was v → (status v).frozen ≡ true → Names r c v seen Restart free
restarts r c v seen free is frozen = record {
  begun = λ e. absurd (cc);
  ready = tt;
  nearer = omega arith;
  taken = inr (record { fewer = omega arith; slots = refl });
  ends = record {
    done = λ e. absurd (cc);
    restart = λ e. inr (subst (below_differs r.lower Named) (sym is) frozen);
    no_swap = λ e. absurd (heard v seen is e);
    full_swaps = λ e. absurd (cc);
    full_nodes = λ e. absurd (cc);
  };
}

swaps : LinksMayBeTurned → (r : Below) (c : Config) (v : ℕ) (seen : Seen) (s : Scene) (free : FreeSlots) → s.past.config ≡ c → IsScene s → v < 2 ^ 61 → seen ≡ Was v → IsSplittingBelow r SPLIT_WORDS SPLIT_LINES s → Names r c v seen Swap free
swaps turned r c v seen s free same good plain is f = record {
  begun = λ e. absurd (cc);
  ready = (subst (λ (z : Config). HaveSlots z.nodes (below_nodes r)) same f.writing.slots, subst (λ (z : Config). IsSwapReady z (named-of r v)) same (swap-ready turned r v s good plain f));
  nearer = omega arith;
  taken = inr (record { fewer = omega arith; slots = refl });
  ends = goes-on r.lower seen Named Swap free refl (heard v seen is);
}

pub names : LinksMayBeTurned → (r : Below) (c : Config) (v : ℕ) (seen : Seen) (p : BelowPhase) (stage : Stage) (s : Scene) (free : FreeSlots) → s.past.config ≡ c → IsScene s → v < 2 ^ 61 → seen ≡ Was v → below_facts r Named stage s → IsNamedPhase v p → Names r c v seen p free
names turned r c v seen p stage s free same good plain is f h = go (status v).frozen refl
  where
    go : (b : Bool) → (status v).frozen ≡ b → Names r c v seen p free
    go true e = subst (λ z. Names r c v seen z free) (sym (h.frozen e)) (restarts r c v seen free is e)
    go false e = subst (λ z. Names r c v seen z free) (sym (h.thawed e)) (swaps turned r c v seen s free same good plain is (waits r stage s f).1)

-- what it teaches
pub named-learns : LinksStandOn → (r : Below) (v : ℕ) (p : BelowPhase) (stage : Stage) (s : Scene) → IsScene s → Answers s r.upper.guard v → below_facts r Named stage s → IsNamedPhase v p → below_facts (named-of r v) p Waiting s
named-learns stand r v p stage s good a f h = go (status v).frozen refl
  where
    go : (b : Bool) → (status v).frozen ≡ b → below_facts (named-of r v) p Waiting s
    go true e = subst (λ z. below_facts (named-of r v) z Waiting s) (sym (h.frozen e)) (waits r stage s f).0
    go false e =
        let g = waits r stage s f in
        subst (λ z. below_facts (named-of r v) z Waiting s) (sym (h.thawed e)) (g.0, (written r v s g.1, was-named stand r v s good g.1 a e))
