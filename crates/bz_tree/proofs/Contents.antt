-- The content is what the reached leaves say, and a graft keeps it where fresh leaves say what the old ones said.
use Rattle.std.proofs.Common.{◌≡◌, ◌≢◌, ℕ, ◌&&◌, Bool, true, false, List, arith, refl, sym, ap, ◌∙◌}
use Rattle.std.specs.Prelude.{None}
use Rattle.std.proofs.lemmas.Bool.{true≢false}
use Rattle.bz_tree.proofs.Descents.{leaf-found, leaf-unique}
use Rattle.bz_tree.proofs.Grafts.{Graft}
use Rattle.bz_tree.proofs.LinkSwaps.{fits-graft}
use Rattle.bz_tree.specs.Outcomes.{Moved}
use Rattle.bz_tree.specs.Descent.{content, leaf_of}
use Rattle.bz_tree.specs.Form.{Fits, Form, Holds, IsHonest}
use Rattle.bz_tree.specs.Order.{is_at_least, is_below, is_within}
use Rattle.bz_tree.specs.View.{View}

-- some leaf of the new tree holds the key and says of it what leaf k said
pub record Says (v w : View) (h : Form) (key : List ℕ) (k n : ℕ) : Type 0 where
  pub there : Holds h key n
  pub same : w.found n key ≡ v.found k key

pub content-graft : (v w : View) (f h : Form) (gone : ℕ → Bool) (g x c : ℕ) (key : List ℕ) → IsHonest v → IsHonest w → Fits v f → Graft v w f h gone g x c
    → ((k : ℕ) → Holds f key k → gone k ≡ true → (n : ℕ) × Says v w h key k n) → content w key ≡ content v key
content-graft v w f h gone g x c key hv hw fit r carries = go (gone (leaf_of v key)) refl
  where
    l : Holds f key (leaf_of v key)
    l = leaf-found v f key hv fit

    kept : Fits w h
    kept = fits-graft v w f h gone g x c fit r

    go : (b : Bool) → gone (leaf_of v key) ≡ b → content w key ≡ content v key
    go true e = let n : (n : ℕ) × Says v w h key (leaf_of v key) n = carries (leaf_of v key) l e in
        let at : leaf_of w key ≡ n.0 = leaf-unique w h key n.0 hw kept n.1.there in ap (λ k. w.found k key) at ∙ n.1.same
    go false e =
        let not_g : leaf_of v key ≢ g = λ q. absurd (omega (arith, r.inner, l.leaf, ap f.level q)) in
        let not_top : leaf_of v key ≢ v.top = λ q. absurd (omega (arith, fit.tall, fit.height, l.leaf, ap f.level q)) in
        let m : Moved f h (leaf_of v key) = r.moved (leaf_of v key) l.inside e not_top in
        let at : leaf_of w key ≡ leaf_of v key = leaf-unique w h key (leaf_of v key) hw kept (record { inside = m.inside; leaf = m.level ∙ l.leaf; low = rw m.low l.low; high = rw m.high l.high }) in
        ap (λ k. w.found k key) at ∙ (r.others (leaf_of v key) l.inside e not_g).found key

-- the content is the union of what the reached leaves say
pub content-union : (v : View) (f : Form) (k : ℕ) (key : List ℕ) → IsHonest v → Fits v f → f.inside k ≡ true → f.level k ≡ 0 → v.found k key ≢ None → content v key ≡ v.found k key
content-union v f k key ho g ins leaf some =
    let nt : k ≢ v.top = λ e. absurd (omega (arith, g.tall, g.height, leaf, ap f.level e)) in
    let r : is_within key (f.low k) (f.high k) ≡ true = ho.holds k (f.low k) (f.high k) key nt (rw (← leaf) (g.whole k ins nt)) some in
    let e : leaf_of v key ≡ k = leaf-unique v f key k ho g (record { inside = ins; leaf = leaf; low = first (is_at_least key (f.low k)) (is_below key (f.high k)) r; high = second (is_at_least key (f.low k)) (is_below key (f.high k)) r }) in
    ap (λ x. v.found x key) e
  where
    first : (a b : Bool) → a && b ≡ true → a ≡ true
    first true b h = refl
    first false b h = h

    second : (a b : Bool) → a && b ≡ true → b ≡ true
    second true b h = h
    second false b h = absurd (true≢false (sym h))
