-- A tree has one form: every form that fits agrees with the one that the walk shows.
use Rattle.std.proofs.Common.{◌≡◌, ◌≢◌, ℕ, zero, suc, ◌+◌, ◌-◌, ◌≤◌, ◌⊎◌, Bool, true, false, arith, refl, sym, ap, subst, ◌∙◌, inl, inr}
use Rattle.std.proofs.lemmas.Bool.{cases_eq}
use Rattle.bz_tree.specs.View.{View}
use Rattle.bz_tree.specs.Form.{Form, Fits, Stands}
use Rattle.bz_tree.specs.Walk.{Visit, kid, start, walk, comes_to, visit_to, form}
use Rattle.bz_tree.specs.Outcomes.{Moved, Stays, Agree}
use Rattle.bz_tree.proofs.Descents.{Home, home}
use Rattle.bz_tree.proofs.Visits.{In, head, closed, Child, comes}
use Rattle.bz_tree.proofs.CleanWalks.{At, has-at, in-has}
use Rattle.bz_tree.proofs.WalkBack.{Right, right-all}

at_top : (v : View) (f : Form) → Fits v f → Right f (start v)
at_top v f g = record { inside = g.top; level = g.height; low = g.top_low; high = g.top_high }

-- the walk comes to a slot as the form says
right-at : (v : View) (f : Form) (k : ℕ) → Fits v f → At (walk v) k → Right f (visit_to (walk v) k)
right-at v f k g a = right-all v f v.height (start v) (visit_to (walk v) k) g (at_top v f g) refl a.there

-- the walk comes to each slot that the form reaches
comes-all : (v : View) (f : Form) (d k : ℕ) → Fits v f → f.inside k ≡ true → f.level k + d ≡ v.height → comes_to (walk v) k ≡ true
comes-all v f zero k g i e = elim (cases_eq k v.top) [
  | inl q ↦ rw q (in-has (walk v) (start v) (head v v.height (start v)))
  | inr n ↦ absurd (omega (arith, (g.hangs k i n).lower))
]
comes-all v f (suc d) k g i e =
    let nt : k ≢ v.top = λ q. absurd (omega (arith, g.height, ap f.level q)) in
    let h : Home v f k = home v f k g i nt in
    let up : comes_to (walk v) (f.up k) ≡ true = comes-all v f d (f.up k) g h.hangs.inside (omega (arith, h.stands.level)) in
    let a : At (walk v) (f.up k) = has-at (walk v) (f.up k) up in
    let r : Right f (visit_to (walk v) (f.up k)) = right-at v f (f.up k) g a in
    let l : (visit_to (walk v) (f.up k)).level ≡ suc (f.level k) = omega (arith, r.level, ap f.level a.slot, h.stands.level) in
    let there : In (kid v (visit_to (walk v) (f.up k)) (f.level k) (f.index k)) (walk v) =
    closed v v.height (f.level k) (f.index k) (start v) (visit_to (walk v) (f.up k)) refl a.there l (rw a.slot h.hangs.within) in
    let slot : v.child (visit_to (walk v) (f.up k)).slot (f.index k) ≡ k = ap (λ x. v.child x (f.index k)) a.slot ∙ h.hangs.child in
    subst (λ x. comes_to (walk v) x ≡ true) slot (in-has (walk v) (kid v (visit_to (walk v) (f.up k)) (f.level k) (f.index k)) there)

-- two tests that imply each other are one
pub same-test : (a b : Bool) → (a ≡ true → b ≡ true) → (b ≡ true → a ≡ true) → a ≡ b
same-test true b to from = sym (to refl)
same-test false true to from = from refl
same-test false false to from = refl

inside-same : (v : View) (f : Form) (k : ℕ) → Fits v f → (form v).inside k ≡ f.inside k
inside-same v f k g = same-test (comes_to (walk v) k) (f.inside k) to from
  where
    to : comes_to (walk v) k ≡ true → f.inside k ≡ true
    to h = let a : At (walk v) k = has-at (walk v) k h in subst (λ x. f.inside x ≡ true) a.slot (right-at v f k g a).inside

    from : f.inside k ≡ true → comes_to (walk v) k ≡ true
    from i = let top : f.level k ≤ v.height = below (cases_eq k v.top) i in comes-all v f (v.height - f.level k) k g i (omega arith)
      where
        below : (k ≡ v.top) ⊎ (k ≢ v.top) → f.inside k ≡ true → f.level k ≤ v.height
        below (inl e) i = omega (arith, ap f.level e, g.height)
        below (inr n) i = omega (arith, (g.hangs k i n).lower)

moved-same : (v : View) (f : Form) (k : ℕ) → Fits v f → f.inside k ≡ true → Moved f (form v) k
moved-same v f k g i =
    let here : comes_to (walk v) k ≡ true = inside-same v f k g ∙ i in
    let a : At (walk v) k = has-at (walk v) k here in
    let r : Right f (visit_to (walk v) k) = right-at v f k g a in
    record {
      inside = here;
      level = sym r.level ∙ ap f.level a.slot;
      low = sym r.low ∙ ap f.low a.slot;
      high = sym r.high ∙ ap f.high a.slot;
    }

stays-same : (v : View) (f : Form) (k : ℕ) → Fits v f → f.inside k ≡ true → k ≢ v.top → Stays f (form v) k
stays-same v f k g i n = go (comes v v.height (start v) (visit_to (walk v) k) refl a.there)
  where
    a : At (walk v) k
    a = has-at (walk v) k (inside-same v f k g ∙ i)

    go : (visit_to (walk v) k ≡ start v) ⊎ Child v (walk v) (visit_to (walk v) k) → Stays f (form v) k
    go (inl q) = absurd (n (sym a.slot ∙ ap (λ (x : Visit). x.slot) q))
    go (inr c) =
        let r : Right f c.parent = right-all v f v.height (start v) c.parent g (at_top v f g) refl c.there in
        let st : Stands v f c.parent.slot c.index (v.child c.parent.slot c.index) = g.down c.parent.slot c.index r.inside (omega (arith, r.level, c.above)) c.within in
        let slot : v.child c.parent.slot c.index ≡ k = sym (ap (λ (x : Visit). x.slot) c.is) ∙ a.slot in
        record {
          moved = moved-same v f k g i;
          up = ap (λ (x : Visit). x.up) c.is ∙ sym st.up ∙ ap f.up slot;
          index = ap (λ (x : Visit). x.index) c.is ∙ sym st.index ∙ ap f.index slot;
        }

pub form-same : (v : View) (f : Form) → Fits v f → Agree v f (form v)
form-same v f g = record { inside = λ j. inside-same v f j g; moved = λ j i. moved-same v f j g i; stays = λ j i n. stays-same v f j g i n }
