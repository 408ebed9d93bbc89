use Rattle.kdc_core.specs.Answer.{after_request, answer}
use Rattle.kdc_core.specs.Issued.{issued}
use Rattle.kdc_core.specs.Request.{request_of}
use Rattle.kdc_core.specs.View.{view}
use Rattle.krb_joined.specs.Joined.{key_of, ruled, taken_of}
use Rattle.krb_joined.proofs.Carrying.{carried, kept_before, kept_on, later_ended, not_presented, not_ruled, not_served}
use Rattle.krb_joined.proofs.Carrying.{presented_so, ruled_so, served_so, stopped, stopped_again}
use Rattle.krb_joined.proofs.Obtained.{none_issued}
use Rattle.krb_joined.proofs.joined.end_to_end.Goals as goal

pub returns-in-Ok-clause-value : goal.returns-in-Ok-clause-value
returns-in-Ok-clause-value c =
    let client = c.args.client.now in
    carried client.reader c.args.acceptor.now c.args.answering.now.accepting.at.sec client.wanted client.presenting.at
    (issued (view c.args.kdc.now c.args.request.now) c.args.answering.now.issuing.at c.args.answering.now.issuing.random (request_of c.args.request.now)) c.in-Ok.credential c.present.result c.in-Ok.ensures.obtained c.present.ensures.value

pub returns-in-Err-clause-value : goal.returns-in-Err-clause-value
returns-in-Err-clause-value c =
    let client = c.args.client.now in
    let request = c.args.request.now in
    let v = view c.args.kdc.now request in
    let at = c.args.answering.now.issuing.at in
    let random = c.args.answering.now.issuing.random in
    let room = c.args.answering.now.issuing.room in
    stopped client.reader c.args.acceptor.now c.args.answering.now.accepting.at.sec client.wanted client.presenting.at (issued v at random (request_of request)) client.asked (answer v at random room request).reply c.in-Err.end
    (none_issued v at random room request (request_of request)) c.in-Err.ensures.before c.in-Err.ensures.ended

pub returns-in-Ok-clause-presented : goal.returns-in-Ok-clause-presented
returns-in-Ok-clause-presented c =
    let client = c.args.client.now in
    let request = c.args.request.now in
    presented_so client.reader c.args.acceptor.now c.args.answering.now.accepting.at.sec client.wanted client.presenting.at client.asked (answer (view c.args.kdc.now request) c.args.answering.now.issuing.at c.args.answering.now.issuing.random c.args.answering.now.issuing.room request).reply c.in-Ok.credential c.present.result
    c.in-Ok.ensures.read c.present.ensures.presented

pub returns-in-Err-clause-presented : goal.returns-in-Err-clause-presented
returns-in-Err-clause-presented c =
    let client = c.args.client.now in
    let request = c.args.request.now in
    not_presented client.reader c.args.acceptor.now c.args.answering.now.accepting.at.sec client.wanted client.presenting.at client.asked (answer (view c.args.kdc.now request) c.args.answering.now.issuing.at c.args.answering.now.issuing.random c.args.answering.now.issuing.room request).reply c.in-Err.end
    c.in-Err.ensures.before

pub returns-in-Ok-clause-ended : goal.returns-in-Ok-clause-ended
returns-in-Ok-clause-ended c =
    let client = c.args.client.now in
    let request = c.args.request.now in
    later_ended client.reader c.args.acceptor.now c.args.answering.now.accepting.at.sec client.wanted client.presenting.at client.asked (answer (view c.args.kdc.now request) c.args.answering.now.issuing.at c.args.answering.now.issuing.random c.args.answering.now.issuing.room request).reply c.in-Ok.credential
    c.in-Ok.ensures.read c.present.result c.present.ensures.presented c.present.ensures.later

pub returns-in-Ok-clause-repeated : goal.returns-in-Ok-clause-repeated
returns-in-Ok-clause-repeated c issue octets again is reader may = c.present.ensures.value issue (c.in-Ok.ensures.repeated issue octets again is reader) may

pub returns-in-Err-clause-repeated : goal.returns-in-Err-clause-repeated
returns-in-Err-clause-repeated c issue octets again is reader may =
    let client = c.args.client.now in
    let request = c.args.request.now in
    stopped_again client.reader c.args.acceptor.now c.args.answering.now.accepting.at.sec client.wanted client.presenting.at issue octets client.asked (answer (view c.args.kdc.now request) c.args.answering.now.issuing.at c.args.answering.now.issuing.random c.args.answering.now.issuing.room request).reply c.in-Err.end
    again c.in-Err.ensures.before c.in-Err.ensures.ended

pub returns-in-Ok-clause-ruled : goal.returns-in-Ok-clause-ruled
returns-in-Ok-clause-ruled c =
    let client = c.args.client.now in
    let request = c.args.request.now in
    ruled_so client.reader client.asked (answer (view c.args.kdc.now request) c.args.answering.now.issuing.at c.args.answering.now.issuing.random c.args.answering.now.issuing.room request).reply c.args.acceptor.now client.wanted client.presenting c.args.answering.now.accepting c.in-Ok.credential
    c.in-Ok.ensures.read c.present.result c.present.ensures.ruled

pub returns-in-Err-clause-ruled : goal.returns-in-Err-clause-ruled
returns-in-Err-clause-ruled c =
    let client = c.args.client.now in
    let request = c.args.request.now in
    let taken = taken_of (answer (view c.args.kdc.now request) c.args.answering.now.issuing.at c.args.answering.now.issuing.random c.args.answering.now.issuing.room request).reply client.asked client.reader in
    not_ruled (key_of taken) client.presenting.at c.args.acceptor.now (ruled c.args.acceptor.now client.wanted client.presenting c.args.answering.now.accepting taken) c.in-Err.end c.in-Err.ensures.before

pub returns-in-Ok-clause-served : goal.returns-in-Ok-clause-served
returns-in-Ok-clause-served c =
    let client = c.args.client.now in
    let request = c.args.request.now in
    served_so client.reader client.asked (answer (view c.args.kdc.now request) c.args.answering.now.issuing.at c.args.answering.now.issuing.random c.args.answering.now.issuing.room request).reply c.args.acceptor.now client.wanted client.presenting c.args.answering.now.accepting c.in-Ok.credential
    c.in-Ok.ensures.read c.present.result _ c.present.ensures.served

pub returns-in-Err-clause-served : goal.returns-in-Err-clause-served
returns-in-Err-clause-served c =
    let client = c.args.client.now in
    let request = c.args.request.now in
    let taken = taken_of (answer (view c.args.kdc.now request) c.args.answering.now.issuing.at c.args.answering.now.issuing.random c.args.answering.now.issuing.room request).reply client.asked client.reader in
    not_served (key_of taken) client.presenting.at c.args.acceptor.now (ruled c.args.acceptor.now client.wanted client.presenting c.args.answering.now.accepting taken) c.in-Err.end c.in-Err.ensures.before

pub returns-in-Ok-clause-kept : goal.returns-in-Ok-clause-kept
returns-in-Ok-clause-kept c = kept_on c.args.kdc.now _ (after_request c.args.kdc.now c.args.answering.now.issuing.at c.args.answering.now.issuing.random c.args.answering.now.issuing.room c.args.request.now) c.in-Ok.credential c.present.result c.in-Ok.ensures.kept

pub returns-in-Err-clause-kept : goal.returns-in-Err-clause-kept
returns-in-Err-clause-kept c = kept_before c.args.kdc.now _ (after_request c.args.kdc.now c.args.answering.now.issuing.at c.args.answering.now.issuing.random c.args.answering.now.issuing.room c.args.request.now) c.in-Err.end c.in-Err.ensures.kept
