-- What the seats have after the last round, one after the other.
use Rattle.std.proofs.Common.{◌≡◌, ℕ, ◌<◌, List, [], ◌∷◌, ◌++◌, length, map, sym, ap, ◌∙◌, arith, append_assoc}
use Rattle.std.proofs.lemmas.List.{length-map, length-append, map_push, append-nil}
use Rattle.dc_station_rules.specs.Stations.{log_of, pending_counts, sent_of}
use Rattle.dc_station.specs.Logs.{Kept}
use Rattle.dc_station.specs.declared.phase.Pending.{Pending}
use Rattle.dc_net.specs.Seat.{SeatState}

-- the seats so far and the others, and what those so far have
pub record EndedSoFar (seats passed rest : List SeatState) (logs sents : List Kept) (pending : List Pending) : Type 0 where
  pub split : seats ≡ passed ++ rest
  pub logs_are : map (λ (l : Kept). l.entries) logs ≡ map (λ (s : SeatState). log_of s.received) passed
  pub sents_are : map (λ (l : Kept). l.entries) sents ≡ map (λ (s : SeatState). sent_of s.stream s.received) passed
  pub pending_are : map (λ (p : Pending). (p.shorts, p.longs)) pending ≡ map (λ (s : SeatState). pending_counts s.stream s.received) passed

-- there is room for what one more seat has
same_count : {A B : Type 0} (f : A → B) (g : SeatState → B) (xs : List A) (passed : List SeatState) → map f xs ≡ map g passed → length xs ≡ length passed
same_count f g xs passed same = sym (length-map xs f) ∙ ap (λ (ys : List _). length ys) same ∙ length-map passed g

pub room_left : {A B : Type 0} (f : A → B) (g : SeatState → B) (xs : List A) (seats passed rest more : List SeatState) (seat : SeatState)
    → map f xs ≡ map g passed → seats ≡ passed ++ rest → rest ≡ seat ∷ more → length xs < length seats
room_left f g xs seats passed rest more seat same split is =
    let count = same_count f g xs passed same in
    let all = ap (λ (ys : List SeatState). length ys) split ∙ length-append passed rest in
    let left = ap (λ (ys : List SeatState). length ys) is in
    omega arith

-- one more item
one_more : {A B : Type 0} (f : A → B) (g : SeatState → B) (xs more : List A) (x : A) (passed : List SeatState) (seat : SeatState) → map f xs ≡ map g passed
    → more ≡ xs ++ x ∷ [] → f x ≡ g seat → map f more ≡ map g (passed ++ seat ∷ [])
one_more f g xs more x passed seat same pushed here =
    ap (map f) pushed ∙ map_push f xs x ∙ ap (λ ys. ys ++ f x ∷ []) same ∙ ap (λ y. map g passed ++ y ∷ []) here ∙ sym (map_push g passed seat)

pub EndedSoFar-more : (seats passed rest left : List SeatState) (logs sents more_logs more_sents : List Kept) (pending more_pending : List Pending)
    (seat : SeatState) (log sent : Kept) (count : Pending)
    → EndedSoFar seats passed rest logs sents pending → rest ≡ seat ∷ left → more_logs ≡ logs ++ log ∷ [] → more_sents ≡ sents ++ sent ∷ []
    → more_pending ≡ pending ++ count ∷ []
    → log.entries ≡ log_of seat.received → sent.entries ≡ sent_of seat.stream seat.received
    → ◌≡◌ {A = ℕ × ℕ} (count.shorts, count.longs) (pending_counts seat.stream seat.received)
    → EndedSoFar seats (passed ++ seat ∷ []) left more_logs more_sents more_pending
EndedSoFar-more seats passed rest left logs sents more_logs more_sents pending more_pending seat log sent count so_far is logged sent_pushed counted log_is sent_is count_is = record {
  split = so_far.split ∙ ap (λ (xs : List SeatState). passed ++ xs) is ∙ sym (append_assoc passed (seat ∷ []) left);
  logs_are = one_more (λ (l : Kept). l.entries) (λ (s : SeatState). log_of s.received) logs more_logs log passed seat so_far.logs_are logged log_is;
  sents_are = one_more (λ (l : Kept). l.entries)
      (λ (s : SeatState). sent_of s.stream s.received) sents more_sents sent passed seat so_far.sents_are sent_pushed sent_is;
  pending_are = one_more (λ (p : Pending). (p.shorts, p.longs))
      (λ (s : SeatState). pending_counts s.stream s.received) pending more_pending count passed seat so_far.pending_are counted count_is;
}

-- at the end these are all seats
pub all_ended : (seats passed rest : List SeatState) (logs sents : List Kept) (pending : List Pending) → EndedSoFar seats passed rest logs sents pending
    → rest ≡ [] → passed ≡ seats
all_ended seats passed rest logs sents pending so_far none = sym (so_far.split ∙ ap (λ (xs : List SeatState). passed ++ xs) none ∙ append-nil passed)
