pub mod Ips
