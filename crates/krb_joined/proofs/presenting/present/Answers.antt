use Rattle.std.proofs.Common.{rules, ◌≡◌, true, Some}
use Rattle.client_core.specs.Sessions.{is_presentable, session_key}
use Rattle.krb_joined.proofs.Ruled.{accepted_after, accepted_as, refused_after, refused_as}
use Rattle.krb_joined.proofs.Serving.{accepted_so, refused_so}
use Rattle.krb_joined.proofs.presenting.present.Goals as goal

pub returns-in-Ok-clause-value : goal.returns-in-Ok-clause-value
returns-in-Ok-clause-value c issue of may =
    let key : session_key c.args.credential.now ≡ Some c.unwrap-key.result = search rules in
    accepted_so issue c.args.acceptor.now c.args.credential.now c.args.client.now.presenting.at c.args.accepting.now.at c.args.client.now.wanted c.args.client.now.presenting.confounder c.args.accepting.now.confounder c.deref.result.now c.in_ok-octets.octets.items c.deref.ensures.value of may
    c.look.ensures c.in_ok-octets.ensures.spelled c.in_ok-octets.ensures.opens c.in-Ok.accepted c.check_ap_rep.result c.unwrap-key.result key c.in-Ok.ensures.answer c.in-Ok.ensures.reply c.check_ap_rep.ensures

pub returns-clause-value : goal.returns-clause-value
returns-clause-value c issue of may =
    refused_so issue c.args.acceptor.now c.args.credential.now c.args.client.now.presenting.at c.args.accepting.now.at c.args.client.now.wanted c.args.client.now.presenting.confounder c.args.accepting.now.confounder c.deref.result.now c.in_ok-octets.octets.items c.deref.ensures.value of may
    c.look.ensures c.in_ok-octets.ensures.spelled c.in_ok-octets.ensures.opens c.in-Err.fault c.in-Err.ensures.answer

pub returns-in-Ok-clause-ruled : goal.returns-in-Ok-clause-ruled
returns-in-Ok-clause-ruled c =
    let key : session_key c.args.credential.now ≡ Some c.unwrap-key.result = search rules in
    let may : is_presentable c.args.credential.now ≡ true = search rules in
    accepted_as c.args.acceptor.now c.args.client.now.wanted c.args.client.now.presenting c.args.accepting.now c.deref.result.now c.in_ok-octets.octets.items c.deref.ensures.value c.args.credential.now may
    c.in_ok-octets.ensures.written c.unwrap-key.result c.in-Ok.accepted c.check_ap_rep.result key c.in-Ok.ensures.answer c.check_ap_rep.ensures

pub returns-clause-ruled : goal.returns-clause-ruled
returns-clause-ruled c =
    let may : is_presentable c.args.credential.now ≡ true = search rules in
    refused_as c.args.acceptor.now c.args.client.now.wanted c.args.client.now.presenting c.args.accepting.now c.deref.result.now c.in_ok-octets.octets.items c.deref.ensures.value c.args.credential.now may
    c.in_ok-octets.ensures.written (session_key c.args.credential.now) c.in-Err.fault c.in-Err.ensures.answer

pub returns-in-Ok-clause-served : goal.returns-in-Ok-clause-served
returns-in-Ok-clause-served c =
    let may : is_presentable c.args.credential.now ≡ true = search rules in
    accepted_after c.args.acceptor.now c.args.client.now.wanted c.args.client.now.presenting c.args.accepting.now c.deref.result.now c.in_ok-octets.octets.items c.deref.ensures.value c.args.credential.now may
    c.in_ok-octets.ensures.written _ c.unwrap-key.result c.in-Ok.accepted c.check_ap_rep.result c.in-Ok.ensures.state c.check_ap_rep.ensures

pub returns-clause-served : goal.returns-clause-served
returns-clause-served c =
    let may : is_presentable c.args.credential.now ≡ true = search rules in
    refused_after c.args.acceptor.now c.args.client.now.wanted c.args.client.now.presenting c.args.accepting.now c.deref.result.now c.in_ok-octets.octets.items c.deref.ensures.value c.args.credential.now may
    c.in_ok-octets.ensures.written _ c.in-Err.fault c.in-Err.ensures.state
