use Rattle.std.proofs.Common.{◌≡◌, ℕ, ◌∙◌, sym, ap, Some, None, option_map, Vec, Global}
use Rattle.serde_json.specs.View.{view}
use Rattle.bz_layout.specs.Addresses.{words_of}
use Rattle.bz_reading.specs.Heads.{start_in}
use Rattle.bz_reading.proofs.HeadAgain.{start_right, config_told, start_told}
use Rattle.bz_reading.proofs.read_lines.told_start.Goals as goal

pub returns-in-Some-found-clause-start : goal.returns-in-Some-found-clause-start
returns-in-Some-found-clause-start c =
    let found : Some c.in-Some-found.start.items ≡ start_in c.words.result (view c.args.value.now) = sym (ap (option_map (λ (v : Vec ℕ Global). v.items)) c.in-Some-found.is) ∙ c.in-Ok.ensures in
    start_right c.in-Some.config (view c.args.value.now) c.words.result c.in-Some-found.start.items c.in-Some.ensures.config c.in-Some.ensures.range c.words.ensures found

pub returns-in-Some-found-clause-told : goal.returns-in-Some-found-clause-told
returns-in-Some-found-clause-told c = λ other start h is.
    let found : Some c.in-Some-found.start.items ≡ start_in c.words.result (view c.args.value.now) = sym (ap (option_map (λ (v : Vec ℕ Global). v.items)) c.in-Some-found.is) ∙ c.in-Ok.ensures in
    let config : Some c.in-Some.config ≡ Some other = config_told other start (view c.args.value.now) (Some c.in-Some.config) h is c.in-Some.ensures.config in
    let same : c.in-Some.config ≡ other = cc in
    let image : Some c.in-Some-found.start.items ≡ Some start = start_told other start (view c.args.value.now) c.words.result (Some c.in-Some-found.start.items) h is (c.words.ensures ∙ ap words_of same) found in
    let whole : c.in-Some-found.start.items ≡ start = cc in
    (same, whole)

pub returns-in-None-clause-broken : goal.returns-in-None-clause-broken
returns-in-None-clause-broken c = λ wrong other start h is.
    let found : None ≡ start_in c.words.result (view c.args.value.now) = sym (ap (option_map (λ (v : Vec ℕ Global). v.items)) c.in-None.is) ∙ c.in-Ok.ensures in
    let config : Some c.in-Some.config ≡ Some other = config_told other start (view c.args.value.now) (Some c.in-Some.config) h is c.in-Some.ensures.config in
    let same : c.in-Some.config ≡ other = cc in
    let image : None ≡ Some start = start_told other start (view c.args.value.now) c.words.result None h is (c.words.ensures ∙ ap words_of same) found in
    absurd (cc)
