-- The air tables of 000 and 002, a row for each clause: at a state, on an event, what is done. 000:87 is line 87 of 000. Where a cell has no row, 000 and 002 have "not permitted" for
-- what the user asks, which is refusal 1, and "request AB to abort" for data, which is abort 3.
use Rattle.std.specs.Prelude.{Bool, true, List, [], ◌∷◌, ℕ, get_or, eqb}
use Rattle.link.specs.Tests.{pick}
use Rattle.link.specs.Names.{no_timer, DC, EC, PC, EM, LI, IDLE}
use Rattle.link.specs.Moves.{Row, row, look, go, to, stop, ind, send, start, unlisted}
use Rattle.link.specs.declared.moves.Move.{Move}
use Rattle.air_tables.specs.Names.{DC-PENDING, DC-ACTIVE, PENDING, ACTIVE, ACTIVE-PENDING, EM-ACTIVE, MODIFY, CANCEL, EM3, LI-ACTIVE, dc_negative, dc_noncompliance, dc_report_ack, dc_report, dc_contract, agree, negative, report_ack, report, contract, cancel, em_report, em_report_ack, em_cancel, em_refuse, em_ack, em_modify}

-- 000, Table 5-11; 002, 2.2.1.5.3.7 and Table 2.2.1.5-66
unfoldable pub dc_rows : List Row
dc_rows =
    -- 000:87-89; 002:4975-4980, 6205: "request the air HI module to invoke ADS-demand-contract indication .. enter the DC-A-PENDING state"
    row IDLE dc_contract (ind (to DC DC-PENDING))
    -- 000:67-69; 002:4905-4911, 6197: negative acknowledgement, "pass it to the air LI module .. enter the DC-A-IDLE state"
    ∷ row DC-PENDING dc_negative (send (to DC IDLE))
    -- 000:69-71; 002:4932-4938, 6198: noncompliance notification, "enter the DC-A-ACTIVE state"
    ∷ row DC-PENDING dc_noncompliance (send (to DC DC-ACTIVE))
    -- 000:71-75; 002:4945-4951, 6200: "If in the DC-A-PENDING state and the positive acknowledgement parameter is present .. enter the DC-A-IDLE state"
    ∷ row DC-PENDING dc_report_ack (send (to DC IDLE))
    -- 000:75-79; 002:4953-4957, 6201: "If in the DC-A-ACTIVE state and the positive acknowledgement parameter is not present .. enter the DC-A-IDLE state"
    ∷ row DC-ACTIVE dc_report (send (to DC IDLE))
    ∷ []

unfoldable pub dc_move : ℕ → ℕ → Move
dc_move s e = look dc_rows s e (unlisted e)

-- EC and PC. 000, Tables 5-13 and 5-15; 002, 2.2.1.5.3.9, 2.2.1.5.3.11 and Tables 2.2.1.5-68, -70. EC's lines stand first, then PC's
unfoldable pub contract_rows : ℕ → List Row
contract_rows who =
    -- 000:209-211; 002:5234-5239, 6239. 000:411-413; 002:5537-5542, 6279: "invoke ADS-event-contract indication .. enter the EC-A-PENDING state"
    row IDLE contract (ind (to who PENDING))
    -- 000:183-187; 002:5156-5162, 5169-5175, 6232. 000:385-389; 002:5470-5477, 6272: "(positive acknowledgement or noncompliance notification)", from PENDING and ACTIVE-PENDING
    ∷ row PENDING agree (send (to who ACTIVE))
    -- 000:187-189; 002:5182-5188, 6233. 000:389-391; 002:5489-5495, 6273: negative acknowledgement, "enter the EC-A-IDLE state"
    ∷ row PENDING negative (send (to who IDLE))
    -- 000:191-195; 002:5202-5208, 6234. 000:393-397; 002:5509-5515, 6274: ADS-report with a positive acknowledgement, from PENDING and ACTIVE-PENDING
    ∷ row PENDING report_ack (send (to who ACTIVE))
    -- 000:197-201; 002:5218-5224, 6235. 000:399-403; 002:5523-5529, 6275: ADS-report without it, "remain in the EC-A-ACTIVE state"
    ∷ row ACTIVE report (send (to who ACTIVE))
    -- 000:211-213; 002:5241-5244, 6239. 000:413-415; 002:5544-5547, 6279: a second contract, "enter the EC-A-ACTIVE-PENDING state"
    ∷ row ACTIVE contract (ind (to who ACTIVE-PENDING))
    -- 02, L4: "A cancel in EC-A-ACTIVE or PC-A-ACTIVE gives the indication, then sends the positive ack, then goes IDLE." 000:213-219; 002:5252-5260, 6240. 000:415-421; 002:5555-5562, 6280
    ∷ row ACTIVE cancel (ind (send (to who IDLE)))
    -- 000:185-187. 000:387-389
    ∷ row ACTIVE-PENDING agree (send (to who ACTIVE))
    -- 000:189-191; 002:5190-5194, 6233. 000:391-393; 002:5497-5501, 6273: negative acknowledgement, "enter the EC-A-ACTIVE state"
    ∷ row ACTIVE-PENDING negative (send (to who ACTIVE))
    -- 000:195-197. 000:397-399
    ∷ row ACTIVE-PENDING report_ack (send (to who ACTIVE))
    ∷ []

unfoldable pub contract_move : ℕ → ℕ → ℕ → Move
contract_move who s e = look (contract_rows who) s e (unlisted e)

-- 000, Table 5-17; 002, 2.2.1.5.3.13 and Table 2.2.1.5-72
unfoldable pub em_rows : List Row
em_rows =
    -- 000:505-507; 002:5697-5703, 6303: ADS-emergency-report without a positive acknowledgement, "enter the EM-A-ACTIVE state"
    row IDLE em_report (send (to EM EM-ACTIVE))
    -- 000:507-509; 002:5705-5709, 6303: "remain in the EM-A-ACTIVE state"
    ∷ row EM-ACTIVE em_report (send (to EM EM-ACTIVE))
    -- 000:511-515; 002:5733-5740, 6305: "create an ADS-cancel-emergency-PDU .. start the t-EM-3 timer .. enter the EM-A-CANCEL state"
    ∷ row EM-ACTIVE em_cancel (send (start EM3 (to EM CANCEL)))
    -- 000:523-525; 002:5763-5768, 6309: "invoke ADS-modify-emergency-contract indication .. enter the EM-A-MODIFY state"
    ∷ row EM-ACTIVE em_modify (ind (to EM MODIFY))
    -- 000:509-511; 002:5718-5724, 6304: ADS-emergency-report with a positive acknowledgement, "enter the EM-A-ACTIVE state"
    ∷ row MODIFY em_report_ack (send (to EM EM-ACTIVE))
    -- 000:515-517; 002:5742-5748, 6306: ADS-modify-emergency-contract response, a negative acknowledgement, "enter the EM-A-ACTIVE state"
    ∷ row MODIFY em_refuse (send (to EM EM-ACTIVE))
    -- 000:521-523; 002:5756-5761, 6308: "stop the t-EM-3 timer .. enter the EM-A-IDLE state"
    ∷ row CANCEL em_ack (stop EM3 (to EM IDLE))
    -- 000:525; 002:5770-5772, 6309: a modify that crossed the cancel, "shall remain in the EM-A-CANCEL state"
    ∷ row CANCEL em_modify (to EM CANCEL)
    ∷ []

unfoldable pub em_move : ℕ → ℕ → Move
em_move s e = look em_rows s e (unlisted e)

-- the rows of each module, in the order of the modules: none asks for another module's state (002:4656)
unfoldable pub air_rows : List ℕ → List (List Row)
air_rows at = dc_rows ∷ contract_rows EC ∷ contract_rows PC ∷ em_rows ∷ []

-- LI's answer to an end indication, with an indication to the user where the ground cancels all: 000:625-629; 002:6070-6080 "invoke D-END response". LI is ACTIVE still
abbrev pub li_answer : Bool → Move
li_answer told = go LI LI-ACTIVE no_timer told true no_timer

-- EM3 where it runs, at EM's state
abbrev pub em3_at : ℕ → ℕ
em3_at em = pick (eqb em CANCEL) EM3 no_timer

-- 002:6074 "request the DC, EC, PC and EM modules to stop operation", in this order: each goes to IDLE from every state (000:83, 205, 407, 529-531; 002:4988, 5272, 5574), and EM stops EM3 (002:5781)
unfoldable pub halts : List ℕ → List Move
halts at = to DC IDLE ∷ to EC IDLE ∷ to PC IDLE ∷ stop (em3_at (get_or at EM 0)) (to EM IDLE) ∷ []
