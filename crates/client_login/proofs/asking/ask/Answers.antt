use Rattle.std.proofs.Common.{rules, subst, sym, ◌∙◌}
use Rattle.std.specs.List.{All}
use Rattle.client_login.specs.Faults.{IsUnheard}
use Rattle.client_login.specs.Places.{AreWithin, IsKdc}
use Rattle.client_login.specs.Replies.{IsExchanged}
use Rattle.client_login.specs.declared.asking.Kdcs.{Kdcs}
use Rattle.client_login.specs.declared.faults.TicketError.{TicketError}
use Rattle.client_login.proofs.Takings.{counted_unheard}
use Rattle.client_login.proofs.Wider.{reply, unheard}
use Rattle.client_login.proofs.Within.{further_within}
use Rattle.client_login.proofs.asking.ask.Goals as goal
use Rattle.client_login.proofs.asking.ask.Goals.{then-not-is_empty+in-Err-ask_each+in_ok-end-in-Err-ask_each, else-not-is_empty}

pub ask_each-requires-clause-kdcs : goal.ask_each-requires-clause-kdcs
ask_each-requires-clause-kdcs g c =
    subst (All (IsKdc g.X.Network.finds c.further_at.new.kdcs.places.items)) (sym c.deref.ensures.value) c.in_ok-addresses.ensures.kdcs

pub returns-in-Ok-ask_each-clause-ok : goal.returns-in-Ok-ask_each-clause-ok
returns-in-Ok-ask_each-clause-ok g c =
    let finds = g.X.Network.finds in
    let within : AreWithin finds c.args.kdcs.now.places.items c.further_at.new.kdcs.places.items =
    further_within finds c.args.kdcs.now.places.items c.loop-place.kdcs.places.items c.further_at.new.kdcs.places.items c.loop-place.invariant.0 c.in_ok-addresses.ensures.within in
    reply finds c.args.kdcs.now.places.items c.further_at.new.kdcs.places.items g.X.Network.carries g.X.Network.answers within c.in-Ok-ask_each.reply c.in-Ok-ask_each.ensures.ok

pub returns-in_err-end-in-Err-ask_each-clause-err : goal.returns-in_err-end-in-Err-ask_each-clause-err
returns-in_err-end-in-Err-ask_each-clause-err g c =
    let finds = g.X.Network.finds in
    let before = c.args.kdcs.now.places.items in
    let within : AreWithin finds before c.further_at.new.kdcs.places.items =
    further_within finds before c.loop-place.kdcs.places.items c.further_at.new.kdcs.places.items c.loop-place.invariant.0 c.in_ok-addresses.ensures.within in
    let heard = unheard finds before c.further_at.new.kdcs.places.items g.X.Network.carries g.X.Network.answers within c.in-Err-ask_each.fault.why c.in-Err-ask_each.fault.kdc c.in-Err-ask_each.ensures.err in
    let same : IsUnheard (IsExchanged finds before g.X.Network.carries g.X.Network.answers) c.in_err-end-in-Err-ask_each.field-0.0.why c.in_err-end-in-Err-ask_each.field-0.0.kdc =
    subst (λ (f : TicketError). IsUnheard (IsExchanged finds before g.X.Network.carries g.X.Network.answers) f.why f.kdc) (sym c.in_err-end-in-Err-ask_each.ensures.err) heard in
    search rules

pub loop-place-preserved : goal.loop-place-preserved
loop-place-preserved g c =
    let finds = g.X.Network.finds in
    let before = c.args.kdcs.now.places.items in
    let answers = IsExchanged finds before g.X.Network.carries g.X.Network.answers in
    let within : AreWithin finds before c.further_at.new.kdcs.places.items =
    further_within finds before c.loop-place.kdcs.places.items c.further_at.new.kdcs.places.items c.loop-place.invariant.0 c.in_ok-addresses.ensures.within in
    elim c.if-not-is_empty.branch [
      | then-not-is_empty+in-Err-ask_each+in_ok-end-in-Err-ask_each w ↦
          let heard = unheard finds before c.further_at.new.kdcs.places.items g.X.Network.carries g.X.Network.answers within w.in-Err-ask_each.fault.why w.in-Err-ask_each.fault.kdc w.in-Err-ask_each.ensures.err in (
            subst (λ (k : Kdcs _). AreWithin finds before k.places.items) (sym w.kdcs-is)
                (subst (λ ps. AreWithin finds before ps.items) (sym w.ask_each.ensures.places) within),
            subst (λ (f : TicketError). IsUnheard answers f.why f.kdc) (sym (w.end-is ∙ w.in_ok-end-in-Err-ask_each.ensures.ok))
                (counted_unheard answers c.loop-place.end w.in-Err-ask_each.fault c.loop-place.invariant.1 heard),
          )
      | else-not-is_empty w ↦ (
        subst (λ (k : Kdcs _). AreWithin finds before k.places.items) (sym w.kdcs-is) within,
        subst (λ (f : TicketError). IsUnheard answers f.why f.kdc) (sym w.end-is) c.loop-place.invariant.1,
      )
    ]
