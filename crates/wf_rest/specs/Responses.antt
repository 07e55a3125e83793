-- The bytes of replies and of faults, framed as HTTP/1.1 frames them.
use Rattle.std.specs.Prelude.{ℕ, pos, ◌==◌, Bool, if◌then◌else◌, List, [], ◌∷◌, ◌++◌, length, codes}
use Rattle.std.specs.Fmt.{decimal}
use Rattle.wf_doc.specs.declared.doc.Doc.{Doc}
use Rattle.wf_doc.specs.declared.doc.Doc.TheVariants.{Int, Text, Table}
use Rattle.wf_doc.specs.Fields.{entry}
use Rattle.wf_doc.specs.Json.{printed}
use Rattle.wf_names.specs.Ids.{id_text}
use Rattle.wf_names.specs.Refusal.{refusal_code, refusal_status, refusal_message}
use Rattle.wf_machine.specs.declared.calling.Reply.{Reply}
use Rattle.wf_machine.specs.declared.calling.Reply.TheVariants.{Accepted, Id, Json, Nothing, Refused}
use Rattle.wf_rest.specs.declared.faulting.HttpFault.{HttpFault}
use Rattle.wf_rest.specs.declared.faulting.HttpFault.TheVariants.{BadFrame, Coding, HeadTooLarge, BodyTooLarge, ContentEncoding, BadMoment, NoRoute, BadMethod, BadPath, BadQuery, Syntax, Fraction, Range, TooDeep, BadBody, BadDefinition, StoreFault, NotBuilt, NoMemory}

-- a reply's status, the methods that it allows where it says so, its body and the body's media type
pub record Response : Type 0 where
  pub status : ℕ
  pub allow : List ℕ
  pub media : List ℕ
  pub body : List ℕ

-- ---- framing

abbrev pub line : List ℕ → List ℕ
line text = text ++ 13 ∷ 10 ∷ []

-- the phrase of a status
abbrev pub phrase_of : ℕ → List ℕ
phrase_of status =
    if status == 200 then codes "OK"
    else if status == 204 then codes "No Content"
    else if status == 400 then codes "Bad Request"
    else if status == 404 then codes "Not Found"
    else if status == 405 then codes "Method Not Allowed"
    else if status == 409 then codes "Conflict"
    else if status == 413 then codes "Content Too Large"
    else if status == 415 then codes "Unsupported Media Type"
    else if status == 431 then codes "Request Header Fields Too Large"
    else if status == 500 then codes "Internal Server Error"
    else if status == 501 then codes "Not Implemented"
    else codes "Service Unavailable"

abbrev pub status_line : ℕ → List ℕ
status_line status = line (codes "HTTP/1.1 " ++ decimal status ++ 32 ∷ phrase_of status)

-- the methods that there are, where another was asked for
abbrev pub allow_line : List ℕ → List ℕ
allow_line allow = if length allow == 0 then [] else line (codes "Allow: " ++ allow)

abbrev pub connection_line : Bool → List ℕ
connection_line close = if close then line (codes "Connection: close") else []

-- a body that isn't empty has a type
abbrev pub type_line : Response → List ℕ
type_line r = if length r.body == 0 then [] else line (codes "Content-Type: " ++ r.media)

-- No Content has no length
abbrev pub length_line : Response → List ℕ
length_line r = if r.status == 204 then [] else line (codes "Content-Length: " ++ decimal (length r.body))

-- the reply to HEAD has all the fields and no body
abbrev pub sent_body : Bool → List ℕ → List ℕ
sent_body head body = if head then [] else body

unfoldable pub response_bytes : Response → Bool → Bool → List ℕ
response_bytes r close head =
    status_line r.status ++ allow_line r.allow ++ connection_line close ++ type_line r ++ length_line r ++ line [] ++ sent_body head r.body

-- ---- replies

abbrev pub empty_response : ℕ → Response
empty_response status = record { status = status; allow = []; media = []; body = [] }

abbrev pub text_response : List ℕ → Response
text_response text = record { status = 200; allow = []; media = codes "text/plain"; body = text }

abbrev pub json_response : ℕ → Doc → Response
json_response status doc = record { status = status; allow = []; media = codes "application/json"; body = printed doc }

-- what a refusal says of itself
abbrev pub refusal_document : List ℕ → List ℕ → ℕ → Doc
refusal_document code message status =
    Table (entry (codes "code") (Text code) ∷ entry (codes "message") (Text message) ∷ entry (codes "status") (Int (pos status)) ∷ [])

abbrev pub refusal_response : List ℕ → List ℕ → ℕ → Response
refusal_response code message status = json_response status (refusal_document code message status)

-- the reply of a store with that mark
abbrev pub response_of : ℕ → Reply → Response
response_of mark Accepted = empty_response 200
response_of mark (Id kind number) = text_response (id_text mark kind number)
response_of mark (Json doc) = json_response 200 doc
response_of mark Nothing = empty_response 204
response_of mark (Refused r) = refusal_response (refusal_code r) (refusal_message r) (refusal_status r)

-- the rule that a definition breaks first, and where
abbrev pub definition_message : ℕ → List ℕ → List ℕ
definition_message rule place = codes "rule " ++ decimal rule ++ codes " at " ++ place

-- a row of the table of faults: code, status, message
abbrev pub fault_row : HttpFault → List ℕ × ℕ × List ℕ
fault_row BadFrame = (codes "BAD_FRAME", 400, codes "not an HTTP message")
fault_row Coding = (codes "CODING", 501, codes "unknown transfer coding")
fault_row HeadTooLarge = (codes "HEAD_TOO_LARGE", 431, codes "the head is too large")
fault_row BodyTooLarge = (codes "BODY_TOO_LARGE", 413, codes "the body is too large")
fault_row ContentEncoding = (codes "CONTENT_ENCODING", 415, codes "the body is encoded")
fault_row BadMoment = (codes "BAD_MOMENT", 400, codes "Moment-Ms is not a moment")
fault_row NoRoute = (codes "NO_ROUTE", 404, codes "no such path")
fault_row (BadMethod allow) = (codes "BAD_METHOD", 405, codes "no such method here")
fault_row BadPath = (codes "BAD_PATH", 400, codes "bad path parameter")
fault_row BadQuery = (codes "BAD_QUERY", 400, codes "bad query")
fault_row Syntax = (codes "SYNTAX", 400, codes "not a JSON text")
fault_row Fraction = (codes "FRACTION", 400, codes "a number has a fraction or an exponent")
fault_row Range = (codes "RANGE", 400, codes "a number is out of range")
fault_row TooDeep = (codes "TOO_DEEP", 400, codes "nested too deep")
fault_row BadBody = (codes "BAD_BODY", 400, codes "the body has another form")
fault_row (BadDefinition rule place) = (codes "BAD_DEFINITION", 400, definition_message rule place)
fault_row StoreFault = (codes "STORE_FAULT", 503, codes "the store failed")
fault_row NotBuilt = (codes "NOT_BUILT", 501, codes "not built yet")
fault_row NoMemory = (codes "NO_MEMORY", 500, codes "no memory")

-- the methods that a fault lists
abbrev pub fault_allow : HttpFault → List ℕ
fault_allow (BadMethod allow) = allow
fault_allow fault = []

abbrev pub allowing : List ℕ → Response → Response
allowing allow r = record r { allow = allow }

abbrev pub fault_response : HttpFault → Response
fault_response fault = allowing (fault_allow fault) (refusal_response (fault_row fault).0 (fault_row fault).2 (fault_row fault).1)

-- ---- their bytes

-- the bytes of a reply: `close` where the connection ends after it, `head` where the request was a HEAD
abbrev pub printed_reply : ℕ → Reply → Bool → Bool → List ℕ
printed_reply mark reply close head = response_bytes (response_of mark reply) close head

abbrev pub printed_fault : HttpFault → Bool → Bool → List ℕ
printed_fault fault close head = response_bytes (fault_response fault) close head
