use Rattle.std.proofs.Common.{◌≡◌, ◌∙◌, Some, Ok, subst, sym, List, ℕ}
use Rattle.krb_der.specs.Spelling.{IsBytes}
use Rattle.kdc_core.specs.Answer.{OneTicketTwoKeys, answer}
use Rattle.kdc_core.specs.Request.{request_of}
use Rattle.kdc_core.specs.View.{view}
use Rattle.krb_joined.specs.Reading.{IsTakenBy, reads_reply}
use Rattle.kdc_replies.specs.Issue.{IsIssued}
use Rattle.krb_joined.proofs.Obtained.{obtained, same_octets, taken_reply}
use Rattle.krb_joined.proofs.obtaining.obtain.Goals as goal

pub returns-in-Ok-clause-obtained : goal.returns-in-Ok-clause-obtained
returns-in-Ok-clause-obtained c =
    let v = view c.args.kdc.now c.args.request.now in
    let request = request_of c.args.request.now in
    let octets = c.in-Some.octets.items in
    let at = c.args.issuing.now.at in
    let random = c.args.issuing.now.random in
    let keys : OneTicketTwoKeys v at random request (Some octets) = rw c.in-Some.is at c.in_ok-reply.ensures.keys in
    let fits : IsBytes octets = subst IsBytes c.deref.ensures.value c.look.ensures.octets in
    let reader = c.args.client.now.reader in
    let taken : IsTakenBy c.args.client.now.reader c.args.client.now.asked octets c.in-Ok.credential = subst (λ (l : List ℕ). IsTakenBy c.args.client.now.reader c.args.client.now.asked l c.in-Ok.credential) c.deref-2.ensures.value c.in-Ok.ensures.taken in
    obtained v at random octets request c.look.ensures.random fits keys c.args.client.now.reader c.args.client.now.asked c.in-Ok.credential taken

pub returns-in-Ok-clause-read : goal.returns-in-Ok-clause-read
returns-in-Ok-clause-read c =
    let octets = c.in-Some.octets.items in
    let reply = (answer (view c.args.kdc.now c.args.request.now) c.args.issuing.now.at c.args.issuing.now.random c.args.issuing.now.room c.args.request.now).reply in
    let same : Some octets ≡ reply = rw c.in-Some.is at c.in_ok-reply.ensures.reply in
    let read : reads_reply c.args.client.now.reader c.args.client.now.asked octets ≡ Ok c.in-Ok.credential =
    subst (λ (l : List ℕ). reads_reply c.args.client.now.reader c.args.client.now.asked l ≡ Ok c.in-Ok.credential) c.deref-2.ensures.value c.in-Ok.ensures.value in
    taken_reply c.args.client.now.reader c.args.client.now.asked octets reply c.in-Ok.credential same read

pub returns-in-Ok-clause-repeated : goal.returns-in-Ok-clause-repeated
returns-in-Ok-clause-repeated c issue octets sent is reader =
    let reply = (answer (view c.args.kdc.now c.args.request.now) c.args.issuing.now.at c.args.issuing.now.random c.args.issuing.now.room c.args.request.now).reply in
    let given : Some c.in-Some.octets.items ≡ reply = rw c.in-Some.is at c.in_ok-reply.ensures.reply in
    let same : octets ≡ c.in-Some.octets.items = same_octets octets c.in-Some.octets.items reply sent given in
    c.in-Ok.ensures.credential issue (subst (λ (l : List ℕ). IsIssued issue l) (same ∙ sym c.deref-2.ensures.value) is) reader
