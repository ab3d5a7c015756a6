mod AdmittedLinks
mod LawfulSaid
mod MadeLinks
mod Places
mod SaidBytes
