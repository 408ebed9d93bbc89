-- What a KDC makes of a request: the ticket that it issues, its reply, and its state afterwards.
use Rattle.std.specs.Prelude.{ℕ, List, Option}
use Rattle.kdc_core.specs.Answer.{after_request, answer}
use Rattle.kdc_core.specs.Issued.{issued}
use Rattle.kdc_core.specs.Request.{request_of}
use Rattle.kdc_core.specs.View.{view}
use Rattle.kdc_replies.specs.Issue.{Issue}
use Rattle.kdc_state.specs.declared.state.State.{State}
use Rattle.krb_joined.specs.declared.obtaining.Issuing.{Issuing}

abbrev pub issue_for : State → Issuing → List ℕ → Option Issue
issue_for state issuing request = issued (view state request) issuing.at issuing.random (request_of request)

abbrev pub reply_to : State → Issuing → List ℕ → Option (List ℕ)
reply_to state issuing request =
    (answer (view state request) issuing.at issuing.random issuing.room request).reply

abbrev pub state_after : State → Issuing → List ℕ → State
state_after state issuing request = after_request state issuing.at issuing.random issuing.room request
