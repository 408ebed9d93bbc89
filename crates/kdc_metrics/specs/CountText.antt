-- The text of counts.
use Rattle.std.specs.Prelude.{ℕ, Bool, true, false, List, ◌++◌, codes}
use Rattle.std.specs.List.{flat_map}
use Rattle.replay.specs.declared.keep.Bears.TheVariants.{Ticket, Error}
use Rattle.ap_req.specs.declared.refusal.ApRefusal.{ApRefusal}
use Rattle.as_exchange.specs.Refusal.{word_of as as_word}
use Rattle.as_exchange.specs.declared.refusal.AsRefusal.{AsRefusal}
use Rattle.tgs_opening.specs.Refusal.{word_of as tgs_word}
use Rattle.tgs_opening.specs.declared.refusal.TgsRefusal.{TgsRefusal}
use Rattle.tgs_opening.specs.declared.refusal.TgsRefusal.TheVariants.{Ap}
use Rattle.request_log.specs.declared.asker.Transport.{Transport as Carrier}
use Rattle.request_log.specs.declared.asker.Transport.TheVariants.{Udp, Tcp}
use Rattle.kdc_metrics.specs.Counts.{replies_in, requests_in}
use Rattle.kdc_metrics.specs.Places.{kinds}
use Rattle.kdc_metrics.specs.Prometheus.{head, sample}
use Rattle.kdc_metrics.specs.declared.counts.Counts.{Counts}
use Rattle.kdc_metrics.specs.declared.kind.Kind.{Kind}
use Rattle.kdc_metrics.specs.declared.kind.Kind.TheVariants.{NoRequest, Unanswered, AsTicket, AsTooBig, AsRefused}
use Rattle.kdc_metrics.specs.declared.kind.Kind.TheVariants.{TgsTicket, TgsTooBig, TgsAgain, TgsRefused}
use Rattle.kdc_metrics.specs.declared.prometheus.NumberType.TheVariants.{Counter}

-- ---- requests

abbrev pub exchange_word : Kind → List ℕ
exchange_word NoRequest = codes ""
exchange_word Unanswered = codes ""
exchange_word AsTicket = codes "as"
exchange_word AsTooBig = codes "as"
exchange_word (AsRefused rule) = codes "as"
exchange_word TgsTicket = codes "tgs"
exchange_word TgsTooBig = codes "tgs"
exchange_word (TgsAgain bears) = codes "tgs"
exchange_word (TgsRefused rule) = codes "tgs"

abbrev pub outcome_word : Kind → List ℕ
outcome_word NoRequest = codes "none"
outcome_word Unanswered = codes "unanswered"
outcome_word AsTicket = codes "ticket"
outcome_word AsTooBig = codes "too-big"
outcome_word (AsRefused rule) = codes "refused"
outcome_word TgsTicket = codes "ticket"
outcome_word TgsTooBig = codes "too-big"
outcome_word (TgsAgain Ticket) = codes "ticket-again"
outcome_word (TgsAgain Error) = codes "refused-again"
outcome_word (TgsRefused rule) = codes "refused"

-- the log's name for the rule that refused, if one did
abbrev pub rule_word : Kind → List ℕ
rule_word NoRequest = codes ""
rule_word Unanswered = codes ""
rule_word AsTicket = codes ""
rule_word AsTooBig = codes ""
rule_word (AsRefused rule) = as_word rule
rule_word TgsTicket = codes ""
rule_word TgsTooBig = codes ""
rule_word (TgsAgain bears) = codes ""
rule_word (TgsRefused rule) = tgs_word rule

abbrev pub requests_name : List ℕ
requests_name = codes "kdcd_requests_total"

abbrev pub request_labels : Kind → List ℕ
request_labels kind =
    (codes "{exchange=\"" ++ exchange_word kind) ++ (codes "\",outcome=\"" ++ outcome_word kind)
    ++ (codes "\",rule=\"" ++ rule_word kind) ++ codes "\"}"

unfoldable pub request_sample : Counts → Kind → List ℕ
request_sample counts kind = sample requests_name (request_labels kind) (requests_in counts kind)

-- the samples of the requests that a rule refused
abbrev pub as_sample : Counts → AsRefusal → List ℕ
as_sample counts rule = request_sample counts (AsRefused rule)

abbrev pub tgs_sample : Counts → TgsRefusal → List ℕ
tgs_sample counts rule = request_sample counts (TgsRefused rule)

abbrev pub ap_sample : Counts → ApRefusal → List ℕ
ap_sample counts rule = tgs_sample counts (Ap rule)

-- a sample for each kind
abbrev pub requests_head : List ℕ
requests_head = head requests_name Counter (codes "Requests, by exchange, outcome, and the rule that refused.")

abbrev pub requests_text : Counts → List ℕ
requests_text counts = requests_head ++ flat_map (request_sample counts) kinds

-- ---- replies

abbrev pub replies_name : List ℕ
replies_name = codes "kdcd_replies_total"

abbrev pub reply_labels : Carrier → Bool → List ℕ
reply_labels Udp true = codes "{transport=\"udp\",sent=\"yes\"}"
reply_labels Udp false = codes "{transport=\"udp\",sent=\"no\"}"
reply_labels Tcp true = codes "{transport=\"tcp\",sent=\"yes\"}"
reply_labels Tcp false = codes "{transport=\"tcp\",sent=\"no\"}"

abbrev pub reply_sample : Counts → Carrier → Bool → List ℕ
reply_sample counts transport is_sent =
    sample replies_name (reply_labels transport is_sent) (replies_in counts transport is_sent)

abbrev pub replies_head : List ℕ
replies_head = head replies_name Counter (codes "Replies, by transport, and whether they were sent.")

abbrev pub replies_text : Counts → List ℕ
replies_text counts =
    replies_head
    ++ (reply_sample counts Udp true ++ reply_sample counts Udp false ++ reply_sample counts Tcp true
    ++ reply_sample counts Tcp false)

-- ---- all

abbrev pub counts_text : Counts → List ℕ
counts_text counts = requests_text counts ++ replies_text counts
