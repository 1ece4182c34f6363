-- What is known of an open call, in the form in which the crates above cite it.
use Rattle.std.proofs.Common.{◌≡◌, ◌<◌, ℕ, suc, Bool, true, false, List, [], ◌∷◌, length, refl, subst, ◌∙◌, arith, ◌==◌, Option, Some, None}
use Rattle.std.specs.Prelude.{if◌then◌else◌, option_map}
use Rattle.bz_ring.specs.declared.calls.QCall.{QCall}
use Rattle.bz_ring.specs.declared.marks.QMark.{QMark}
use Rattle.bz_mark.specs.declared.marks.Mark.TheVariants.{Cut}
use Rattle.bz_ring.specs.declared.marks.QMark.TheVariants.{Begin, End, Effect, Memory}
use Rattle.bz_ring.specs.Journal.{mark_at}
use Rattle.bz_ring.proofs.EachMoment.{mark_at-newest, mark_at-earlier}
use Rattle.bz_ring.specs.Calls.{Open, open_call, with_effect}
use Rattle.std.proofs.lemmas.Bool.Decides.{nat_tests}

began_one : (b : Bool) (n now : ℕ) (call : QCall) (rest : Option Open) (opened : Open) → (if b then Some (record { number = n; call = call; begun = now; effect = None }) else rest) ≡ Some opened
    → (rest ≡ Some opened → opened.begun < now) → opened.begun < suc now
began_one true n now call rest opened is before = let same : now ≡ opened.begun = cc in omega arith
began_one false n now call rest opened is before = omega (arith, before is)

ended_one : (b : Bool) (now : ℕ) (rest : Option Open) (opened : Open) → (if b then None else rest) ≡ Some opened
    → (rest ≡ Some opened → opened.begun < now) → opened.begun < suc now
ended_one true now rest opened is before = absurd cc
ended_one false now rest opened is before = omega (arith, before is)

effect_one : (b : Bool) (now : ℕ) (rest : Option Open) (opened : Open) → (if b then option_map (with_effect now) rest else rest) ≡ Some opened
    → ((other : Open) → rest ≡ Some other → other.begun < now) → opened.begun < suc now
effect_one true now None opened is before = absurd cc
effect_one true now (Some other) opened is before = let same : other.begun ≡ opened.begun = cc in omega (arith, before other refl)
effect_one false now rest opened is before = omega (arith, before opened is)

pub began_before : (w : ℕ) (past : List QMark) (opened : Open) → open_call w past ≡ Some opened → opened.begun < length past
began_before w [] opened is = absurd cc
began_before w (Begin v n call ∷ past) opened is = began_one (v == w) n (length past) call (open_call w past) opened is (began_before w past opened)
began_before w (End v n reply at ∷ past) opened is = ended_one (v == w) (length past) (open_call w past) opened is (began_before w past opened)
began_before w (Effect v n ∷ past) opened is = effect_one (v == w) (length past) (open_call w past) opened is (began_before w past)
began_before w (Memory Cut ∷ past) opened is = absurd cc
began_before w (mark ∷ past) opened is = omega (arith, began_before w past opened is)

begin_found : (b : Bool) (w v n : ℕ) (past : List QMark) (call : QCall) (rest : Option Open) (opened : Open) → (v == w) ≡ b
    → (if b then Some (record { number = n; call = call; begun = length past; effect = None }) else rest) ≡ Some opened
    → (rest ≡ Some opened → (opened.begun < length past) × (mark_at opened.begun past ≡ Some (Begin w opened.number opened.call)))
    → mark_at opened.begun (Begin v n call ∷ past) ≡ Some (Begin w opened.number opened.call)
begin_found true w v n past call rest opened same is before =
    let worker : v ≡ w = grind (arith, nat_tests) in
    let fresh : ◌≡◌ {A = Open} (record { number = n; call = call; begun = length past; effect = None }) opened = cc in
    subst (λ (o : Open). mark_at o.begun (Begin v n call ∷ past) ≡ Some (Begin w o.number o.call)) fresh (rw worker (mark_at-newest (Begin w n call) past))
begin_found false w v n past call rest opened same is before =
    let (lt, found) = before is in
    mark_at-earlier opened.begun (Begin v n call) past lt ∙ found

later_found : (w : ℕ) (mark : QMark) (past : List QMark) (opened : Open) → (opened.begun < length past) × (mark_at opened.begun past ≡ Some (Begin w opened.number opened.call))
    → mark_at opened.begun (mark ∷ past) ≡ Some (Begin w opened.number opened.call)
later_found w mark past opened (lt, found) = mark_at-earlier opened.begun mark past lt ∙ found

end_found : (b : Bool) (w : ℕ) (mark : QMark) (past : List QMark) (rest : Option Open) (opened : Open) → (if b then None else rest) ≡ Some opened
    → (rest ≡ Some opened → (opened.begun < length past) × (mark_at opened.begun past ≡ Some (Begin w opened.number opened.call)))
    → mark_at opened.begun (mark ∷ past) ≡ Some (Begin w opened.number opened.call)
end_found true w mark past rest opened is before = absurd cc
end_found false w mark past rest opened is before = later_found w mark past opened (before is)

effect_found : (b : Bool) (w : ℕ) (mark : QMark) (past : List QMark) (rest : Option Open) (opened : Open) → (if b then option_map (with_effect (length past)) rest else rest) ≡ Some opened
    → ((other : Open) → rest ≡ Some other → (other.begun < length past) × (mark_at other.begun past ≡ Some (Begin w other.number other.call)))
    → mark_at opened.begun (mark ∷ past) ≡ Some (Begin w opened.number opened.call)
effect_found true w mark past None opened is before = absurd cc
effect_found true w mark past (Some other) opened is before =
    let same : with_effect (length past) other ≡ opened = cc in
    subst (λ (o : Open). mark_at o.begun (mark ∷ past) ≡ Some (Begin w o.number o.call)) same (later_found w mark past other (before other refl))
effect_found false w mark past rest opened is before = later_found w mark past opened (before opened is)

-- the journal has the Begin of an open call where the call began
pub has_begin : (w : ℕ) (past : List QMark) (opened : Open) → open_call w past ≡ Some opened → mark_at opened.begun past ≡ Some (Begin w opened.number opened.call)
has_begin w [] opened is = absurd cc
has_begin w (Begin v n call ∷ past) opened is = begin_found (v == w) w v n past call (open_call w past) opened refl is (λ here. (began_before w past opened here, has_begin w past opened here))
has_begin w (End v n reply at ∷ past) opened is = end_found (v == w) w (End v n reply at) past (open_call w past) opened is (λ here. (began_before w past opened here, has_begin w past opened here))
has_begin w (Effect v n ∷ past) opened is = effect_found (v == w) w (Effect v n) past (open_call w past) opened is (λ other here. (began_before w past other here, has_begin w past other here))
has_begin w (Memory Cut ∷ past) opened is = absurd cc
has_begin w (mark ∷ past) opened is = later_found w mark past opened (began_before w past opened is, has_begin w past opened is)
