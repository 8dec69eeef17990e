use Rattle.std.proofs.Common.{◌≡◌, ◌+◌, ◌≤◌, List, OnOk, ap, sym, subst, map, length, vec_len, arith}
use Rattle.std.proofs.lemmas.List.{length-map}
use Rattle.beacon_types.specs.declared.attestation_data.AttestationData.{AttestationData}
use Rattle.forensics.proofs.CarriedRoom.{reserved}
use Rattle.forensics.proofs.spans.carried.CarriedVotes.reserve.Goals as goal

pub returns-clause-room : goal.returns-clause-room
returns-clause-room c =
    let e : length c.reserve-2.new.self.contents ≡ length c.self.inside.spans.contents = ap (λ (xs : List AttestationData). length xs) c.reserve-2.ensures.contents in
    let full : vec_len c.reserve.new.self ≡ length c.reserve.new.self.items = c.reserve.new.self.ok.0 in
    let l = c.len.ensures in
    reserved c.reserve-2.result _ (length c.args.lists.now) (map (λ x. x.items) c.args.lists.now) c.requires.once (length-map c.args.lists.now (λ x. x.items)) (omega (arith, c.in_ok-reserve.ensures.ok))
    (subst (λ (xs : List AttestationData). OnOk c.reserve-2.result (length xs + length c.args.lists.now ≤ c.reserve-2.new.self.room)) (sym c.reserve-2.ensures.contents) c.reserve-2.ensures.room)
    c.reserve-2.ensures.reserved (omega arith)
