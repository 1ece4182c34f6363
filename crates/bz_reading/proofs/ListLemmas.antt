-- The items of an array that was read, as a list.
use Rattle.std.proofs.Common.{◌≡◌, List, [], ◌∷◌, map, Option, Some, option_and_then, refl, sym, ap, ◌∙◌}
use Rattle.serde_json.specs.Data.{Data, Items}
use Rattle.serde_json.specs.View.{view, items_of, items_view}
use Rattle.serde_json.specs.declared.value.Value.{Value}
use Rattle.std.specs.Prelude.{Err, IsErrOf}
use Rattle.bz_reading.specs.declared.error.LineFault.{LineFault}
use Rattle.bz_reading.specs.Reading.{listed}

pub listed-items_of : (ds : List Data) → listed (items_of ds) ≡ ds
listed-items_of [] = refl
listed-items_of (d ∷ ds) = ap (λ (es : List Data). d ∷ es) (listed-items_of ds)

pub read_list : {B : Type 0} (f : List Data → Option B) (o : Option Items) (vs : List Value) (r : Option B) → Some (items_view vs) ≡ o → f (map view vs) ≡ r → option_and_then (λ ds. f (listed ds)) o ≡ r
read_list f o vs r is read = ap (option_and_then (λ ds. f (listed ds))) (sym is) ∙ ap f (listed-items_of (map view vs)) ∙ read

-- one fault of two results
pub moved : {A B : Type 0} (e f : LineFault) → IsErrOf {T = A} (Err e) f → IsErrOf {T = B} (Err e) f
moved {A} {B} e f is = let same : e ≡ f = cc in ap (λ (x : LineFault). Err x) same
