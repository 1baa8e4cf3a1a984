use Rattle.std.proofs.Common.{arith, ℕ, ◌<◌, ◌≡◌, ◌≢◌, length, get_or, ap, subst, ◌∙◌, List}
use Rattle.dc_live.specs.Seats.{SeatsState}
use Rattle.dc_live.proofs.SeatLemmas.{has_place}
use Rattle.dc_live.proofs.seats.Seats.peer_of.Goals as goal

pub overflow_cast-result : goal.overflow_cast-result
overflow_cast-result c =
    let within = c.self.invariant.2 in
    let few = c.self.invariant.4 in
    let low : c.in-Some.peer < length c.self.inside.told.items = subst (λ (told : List ℕ). c.in-Some.peer < length told) c.as_slice.ensures.value c.in-Some.ensures.some.0 in
    omega arith

pub returns-in-Some : goal.returns-in-Some
returns-in-Some c =
    let same : c.as_slice.result.now ≡ c.args.self.now.told = c.as_slice.ensures.value ∙ ap (λ (s : SeatsState). s.told) c.self.view_is in
    record {
      peer = subst (λ (told : List ℕ). c.in-Some.peer < length told) same c.in-Some.ensures.some.0;
      station = subst (λ (told : List ℕ). get_or told c.in-Some.peer 0 ≡ c.args.station) same c.in-Some.ensures.some.1;
    }

pub returns-in-None : goal.returns-in-None
returns-in-None c =
    let same : c.as_slice.result.now ≡ c.args.self.now.told = c.as_slice.ensures.value ∙ ap (λ (s : SeatsState). s.told) c.self.view_is in
    absurd (has_place c.args.self.now.told c.args.station c.requires
    (subst (λ (told : List ℕ). (k : ℕ) → k < length told → get_or told k 0 ≢ c.args.station) same c.in-None.ensures.none))
